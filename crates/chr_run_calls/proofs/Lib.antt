mod Said
mod Runs
mod Made
