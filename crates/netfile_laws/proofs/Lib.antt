-- Writing and reading one after the other.
pub mod RoundTrips
