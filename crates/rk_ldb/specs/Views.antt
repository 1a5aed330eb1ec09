-- What is written of a state that is opened.
use Rattle.std.specs.Prelude.{ℕ, Bool, List, [], ◌∷◌, ◌++◌, map, Option, option_map}
use Rattle.rk_bytes.specs.Model.Grammar.{KeyWord, key_bytes}
use Rattle.rk_bytes.specs.Model.KeyView.{State, Answer, answer, rows}
use Rattle.rk_bytes.specs.Model.Lines.{row_line, answer_line, manifest_line, point_line}
use Rattle.rk_bytes.specs.Model.Opening.{Best}
use Rattle.rk_bytes.specs.Model.Output.{Output, written, for_family, answer_status, counts_line}

-- the rows of a family between two keys
abbrev pub family_rows : Option (List ℕ) → Option KeyWord → Option KeyWord → Bool → State → Output
family_rows named from to hex state = for_family named (λ id. written (map (row_line hex) (rows state id (option_map key_bytes from) (option_map key_bytes to)))) state

-- the answer for a key
abbrev pub answer_output : Bool → Answer → Output
answer_output hex shown = record { lines = answer_line hex shown ∷ []; status = answer_status shown }

-- the answer for a key of a family
abbrev pub family_answer : KeyWord → Option (List ℕ) → Bool → State → Output
family_answer key named hex state = for_family named (λ id. answer_output hex (answer state id (key_bytes key))) state

-- what a check writes after the manifest's line, of what is opened by best efforts
abbrev pub best_rest : Best → List (List ℕ)
best_rest best = map point_line best.points ++ counts_line best.state ∷ []

-- all of it
abbrev pub best_lines : Best → List (List ℕ)
best_lines best = manifest_line best.manifest best.units ∷ best_rest best
