-- Records and range deletions that are added to a state, one after another.
use Rattle.std.proofs.Common.{◌≡◌, ℕ, zero, suc, ◌+◌, ◌<◌, ◌≤◌, true, List, [], ◌∷◌, ◌++◌, length, get_or, map, take, drop, refl, sym, ap, ◌∙◌, subst, append_assoc, arith}
use Rattle.std.specs.Prelude.{◌==◌}
use Rattle.std.specs.List.{AllByRecursion}
use Rattle.std.proofs.lemmas.Bool.Decides.{Decides-eqb}
use Rattle.std.proofs.lemmas.List.{map-append, take_more, take_all}
use Rattle.rk_bytes.specs.declared.model.key.Record.{Record}
use Rattle.rk_bytes.specs.declared.model.block.RangeDel.{RangeDel}
use Rattle.rk_bytes.specs.declared.model.view.Tomb.{Tomb}
use Rattle.rk_bytes.specs.Model.KeyView.{State, tomb_of}
use Rattle.rk_bytes.specs.Model.Opening.{Listed, range_record}
use Rattle.rk_bytes.specs.Model.Records.{over, last_records}
use Rattle.rk_view.specs.Kept.{with_record, with_records}
use Rattle.rk_open.specs.Tables.{Adds, bounds_of, cut_ranges}
use Rattle.rk_open.proofs.RecordLemmas.{last_records-append, over-assoc, over-none}

append_none : {A : Type 0} (xs : List A) → xs ++ [] ≡ xs
append_none [] = refl
append_none (x ∷ xs) = ap (λ l. x ∷ l) (append_none xs)

-- nothing is added
pub adds_none : (state : State) → Adds [] [] state state
adds_none state = record { families = refl; records_are = sym (over-none state.records); tombs_are = sym (append_none state.tombs) }

-- one after another
pub adds_both : (xs ys : List Record) (ts us : List Tomb) (old mid new : State) → Adds xs ts old mid → Adds ys us mid new → Adds (xs ++ ys) (ts ++ us) old new
adds_both xs ys ts us old mid new a b = record {
  families = b.families ∙ a.families;
  records_are = b.records_are ∙ ap (λ m. over m (last_records ys)) a.records_are ∙ over-assoc old.records (last_records xs) (last_records ys) ∙ ap (over old.records) (sym (last_records-append xs ys));
  tombs_are = b.tombs_are ∙ ap (λ l. l ++ us) a.tombs_are ∙ append_assoc old.tombs ts us;
}

-- a table's run is added
pub adds_run : (run : List Record) (old new : State) → new ≡ with_records run old → Adds run [] old new
adds_run run old new e = subst (Adds run [] old) (sym e) (record { families = refl; records_are = refl; tombs_are = sym (append_none old.tombs) })

-- a range deletion is added
pub adds_range : (listed : Listed) (range : RangeDel) (old new : State) → new ≡ with_record (bounds_of listed) (range_record listed.family range) old → Adds (range_record listed.family range ∷ []) (tomb_of (bounds_of listed) (range_record listed.family range) ∷ []) old new
adds_range listed range old new e = subst (Adds (range_record listed.family range ∷ []) (tomb_of (bounds_of listed) (range_record listed.family range) ∷ []) old) (sym e) (record { families = refl; records_are = refl; tombs_are = refl })

-- one more of a table's range deletions
pub range_more : (listed : Listed) (ranges : List RangeDel) (k : ℕ) (range : RangeDel) (old mid new : State) → range ≡ get_or ranges k range → k < length ranges
    → Adds (map (range_record listed.family) (take k ranges)) (cut_ranges listed (take k ranges)) old mid → new ≡ with_record (bounds_of listed) (range_record listed.family range) mid
    → Adds (map (range_record listed.family) (take (k + 1) ranges)) (cut_ranges listed (take (k + 1) ranges)) old new
range_more listed ranges k range old mid new at less so_far e =
    let made = range_record listed.family in
    let cut = tomb_of (bounds_of listed) in
    let whole : take (k + 1) ranges ≡ take k ranges ++ range ∷ [] = take_more ranges k range less ∙ ap (λ r. take k ranges ++ r ∷ []) (sym at) in
    let records : map made (take (k + 1) ranges) ≡ map made (take k ranges) ++ made range ∷ [] = ap (map made) whole ∙ map-append made (take k ranges) (range ∷ []) in
    let tombs : cut_ranges listed (take (k + 1) ranges) ≡ cut_ranges listed (take k ranges) ++ cut (made range) ∷ [] = ap (map cut) records ∙ map-append cut (map made (take k ranges)) (made range ∷ []) in
    subst (λ (ts : List Tomb). Adds (map made (take (k + 1) ranges)) ts old new) (sym tombs)
    (subst (λ (rs : List Record). Adds rs (cut_ranges listed (take k ranges) ++ cut (made range) ∷ []) old new) (sym records)
    (adds_both (map made (take k ranges)) (made range ∷ []) (cut_ranges listed (take k ranges)) (cut (made range) ∷ []) old mid new so_far (adds_range listed range mid new e)))

-- where there are none, none is added
pub ranges_none : (listed : Listed) (ranges : List RangeDel) (state : State) → length ranges == 0 ≡ true → Adds (map (range_record listed.family) ranges) (cut_ranges listed ranges) state state
ranges_none listed [] state e = adds_none state
ranges_none listed (range ∷ ranges) state e = let none : length (range ∷ ranges) ≡ 0 = (Decides-eqb (length (range ∷ ranges)) 0).0 e in absurd (omega arith)

-- what holds of each does so of those that are left
pub each_left : {A : Type 0} (P : A → Type 0) (k : ℕ) (xs : List A) → AllByRecursion P xs → AllByRecursion P (drop k xs)
each_left P zero xs each = each
each_left P (suc k) [] each = tt
each_left P (suc k) (x ∷ xs) each = each_left P k xs each.1

-- all of them
pub ranges_all : (listed : Listed) (ranges : List RangeDel) (k : ℕ) (old new : State) → length ranges ≤ k → Adds (map (range_record listed.family) (take k ranges)) (cut_ranges listed (take k ranges)) old new
    → Adds (map (range_record listed.family) ranges) (cut_ranges listed ranges) old new
ranges_all listed ranges k old new all adds = subst (λ (l : List RangeDel). Adds (map (range_record listed.family) l) (cut_ranges listed l) old new) (take_all k ranges all) adds
