-- What a drill writes so far: its lines up to those of its repair.
use Rattle.std.specs.Prelude.{ℕ, List, [], ◌∷◌, ◌++◌, map}
use Rattle.rk_bytes.specs.declared.model.command.How.{How}
use Rattle.rk_bytes.specs.declared.model.command.How.TheVariants as how
use Rattle.rk_bytes.specs.Model.DiskImages.{Directory}
use Rattle.rk_bytes.specs.Model.Grammar.{all_modes}
use Rattle.rk_bytes.specs.Model.Lines.{drill_line, mode_line, best_efforts_line}
use Rattle.rk_bytes.specs.Model.Output.{Output, written, opened_counts, state_of}

-- the front of a drill's lines: what the directory is opened to in each mode and by best efforts
abbrev pub drill_lines : ℕ → Directory → List (List ℕ)
drill_lines n d = drill_line n ∷ map (λ mode. mode_line mode (opened_counts (state_of (how.Normal mode) d))) all_modes
    ++ best_efforts_line (opened_counts (state_of how.Best d)) ∷ []

-- what a drill writes of the directory
abbrev pub drill_so_far : ℕ → Directory → Output
drill_so_far n d = written (drill_lines n d)

-- the line of a way of opening, of what that came to
abbrev pub opening_line : How → List ℕ → List ℕ
opening_line (how.Normal mode) words = mode_line mode words
opening_line how.Best words = best_efforts_line words

-- the same of a directory
abbrev pub opened_line : Directory → How → List ℕ
opened_line d way = opening_line way (opened_counts (state_of way d))
