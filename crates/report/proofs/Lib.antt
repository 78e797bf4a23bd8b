mod Going
mod Lines
mod Reporting
