pub mod LawfulLogs
