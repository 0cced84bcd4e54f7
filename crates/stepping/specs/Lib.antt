-- From plan to plan.
pub mod Advances
