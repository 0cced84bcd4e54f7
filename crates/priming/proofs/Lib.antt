-- What a check that says yes means, and what prepared working memory serves for.
pub mod Priming
