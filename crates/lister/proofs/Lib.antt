-- What the lister writes.
mod Printing
