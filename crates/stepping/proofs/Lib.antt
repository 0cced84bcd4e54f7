-- What a step from plan to plan rests on.
pub mod Rewrites
pub mod Advances
