mod Numbering
mod Rows
mod Values
