mod Cells
mod FilledRows
mod Numbers
mod Singles
mod Splits
mod TableRows
