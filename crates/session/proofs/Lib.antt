mod FromFn
mod Booking
mod Naming
mod Obedience
mod Handing
mod Turns
mod Flows
mod Wholes
