mod Alone
mod Counting
mod Lawful
mod Quiet
mod Told
