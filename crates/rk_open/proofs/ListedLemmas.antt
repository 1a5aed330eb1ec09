-- The tables that a version lists.
use Rattle.std.proofs.Common.{◌≡◌, ℕ, ◌+◌, ◌<◌, List, [], ◌∷◌, ◌++◌, length, get_or, map, take, refl, sym, ap, ◌∙◌, append_assoc}
use Rattle.std.specs.Prelude.{flat_map}
use Rattle.std.specs.List.Sorted.{IsNonDecreasingBy, IsStableByKey}
use Rattle.std.specs.Ordering.{nat_cmp}
use Rattle.std.proofs.lemmas.Grind.{flat_map-append}
use Rattle.std.proofs.lemmas.List.{map-append, take_more}
use Rattle.rk_bytes.specs.declared.model.manifest.FamilyState.{FamilyState}
use Rattle.rk_bytes.specs.declared.model.manifest.FileMeta.{FileMeta}
use Rattle.rk_bytes.specs.Model.Opening.{Listed, in_order, listed_by, listed_tables}
use Rattle.rk_open.specs.declared.listed.ListedTable.{ListedTable}
use Rattle.rk_open.specs.Tables.{listed_of}
use Rattle.rk_open.proofs.OrderLemmas.{sorted_in_order, in_order-map}

-- a file as a table of this family
abbrev pub listed_with : ℕ → FileMeta → Listed
listed_with family file = record { family = family; file = file }

-- one more table of a family
pub one_more : (tables after : List ListedTable) (new : ListedTable) (before : List Listed) (family : ℕ) (files : List FileMeta) (k : ℕ) → after ≡ tables ++ new ∷ [] → new.family ≡ family → new.file.now ≡ get_or files k new.file.now → k < length files
    → map listed_of tables ≡ before ++ map (listed_with family) (take k files) → map listed_of after ≡ before ++ map (listed_with family) (take (k + 1) files)
one_more tables after new before family files k pushed same at less so_far =
    let front = map (listed_with family) (take k files) in
    let one : listed_of new ≡ listed_with family (get_or files k new.file.now) = λ i. record { family = same i; file = at i } in
    ap (map listed_of) pushed ∙ map-append listed_of tables (new ∷ []) ∙ (λ i. so_far i ++ one i ∷ []) ∙ append_assoc before front (listed_with family (get_or files k new.file.now) ∷ [])
    ∙ ap (λ l. before ++ l) (sym (map-append (listed_with family) (take k files) (get_or files k new.file.now ∷ [])) ∙ ap (map (listed_with family)) (sym (take_more files k new.file.now less)))

-- the tables of one more family
pub family_more : (tables after : List ListedTable) (live : FamilyState) (families : List FamilyState) (k : ℕ) → map listed_of after ≡ map listed_of tables ++ listed_by live → live ≡ get_or families k live → k < length families
    → map listed_of tables ≡ flat_map listed_by (take k families) → map listed_of after ≡ flat_map listed_by (take (k + 1) families)
family_more tables after live families k pushed at less so_far =
    let one : flat_map listed_by (get_or families k live ∷ []) ≡ listed_by (get_or families k live) = append_none (listed_by (get_or families k live)) in
    pushed ∙ (λ i. so_far i ++ (ap listed_by at ∙ sym one) i) ∙ sym (flat_map-append listed_by (take k families) (get_or families k live ∷ [])) ∙ ap (flat_map listed_by) (sym (take_more families k live less))
  where
    append_none : (xs : List Listed) → xs ++ [] ≡ xs
    append_none [] = refl
    append_none (x ∷ xs) = ap (λ l. x ∷ l) (append_none xs)

abbrev pub number_of : ListedTable → ℕ
number_of table = table.file.now.number

-- the tables in rising number
pub listed_sorted : (tables sorted : List ListedTable) (families : List FamilyState) → IsNonDecreasingBy number_of sorted → IsStableByKey number_of nat_cmp tables sorted → map listed_of tables ≡ flat_map listed_by families → map listed_of sorted ≡ listed_tables families
listed_sorted tables sorted families up stable all =
    ap (map listed_of) (sorted_in_order number_of tables sorted up stable) ∙ sym (in_order-map listed_of (λ table. table.file.number) tables) ∙ ap (in_order (λ table. table.file.number)) all
