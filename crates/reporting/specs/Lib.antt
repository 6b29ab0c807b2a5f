-- What the commands `sum` and `merge` make.
pub mod Report
pub mod ReportLaws
pub mod ReportKinds
pub mod ReportExact
