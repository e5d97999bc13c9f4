mod Asked
mod Forms
mod Outcomes
