mod Judged
mod Choosing
mod Settlements
