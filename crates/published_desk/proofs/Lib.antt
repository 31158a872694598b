mod Onward
mod Opening
