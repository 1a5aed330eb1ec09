-- The lines of an item of a log's file.
use Rattle.std.proofs.Common.{◌≡◌, ℕ, List, [], ◌∷◌, refl}
use Rattle.rk_bytes.specs.Model.LogItems.{Item, rec, gap, end}
use Rattle.rk_bytes.specs.Model.Lines.{item_line}
use Rattle.rk_ldb.specs.declared.items.Form.{Form}
use Rattle.rk_ldb.specs.Wrote.{record_word, record_lines, form_lines}

-- those after the first
abbrev pub later_lines : Form → Item → List (List ℕ)
later_lines form (rec payload place) = record_lines form.records form.hex payload
later_lines form (gap why place) = []
later_lines form (end kind place) = []

pub first_line : (form : Form) (item : Item) → form_lines form item ≡ item_line (record_word form.records) item ∷ later_lines form item
first_line form (rec payload place) = refl
first_line form (gap why place) = refl
first_line form (end kind place) = refl
