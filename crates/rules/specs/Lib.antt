-- The typing rules as tests, and that each test is exact.
pub mod Tests
pub mod RuleExact
