-- The files on both edges get the numbers that the table of specs/Examples.antt says.
-- Assumes nothing.
use mathlib.Core.Path.{◌≡◌, refl}
use mathlib.Core.Bool.{true}
use lib.Dec.{eqb}
use Rattle.lists.specs.Lists.{every}
use Rattle.file_records.specs.Records.{body_of}
use Rattle.netfile_format.specs.Files.{read_reaches, read_file}
use Rattle.netfile_format.specs.Answers.{reading_number}
use Rattle.netfile_format.specs.Examples.{files}

pub files-hold : every (λ e. eqb (reading_number (read_file e.0)) e.1) files ≡ true
unfolding body_of read_reaches read_file
files-hold = refl
