mod Masks
mod Joins
