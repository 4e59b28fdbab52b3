-- The answer as the code finds it, for the functions here.
mod Found
mod Marks
mod Matched
mod Named
mod Seen
mod Whole
