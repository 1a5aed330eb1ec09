mod Named
mod Printed
mod SixDigits
