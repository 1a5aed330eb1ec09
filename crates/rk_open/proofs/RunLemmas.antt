-- The records of a table's blocks, one after another.
use Rattle.std.proofs.Common.{◌≡◌, ℕ, ◌≤◌, Bool, true, false, cond, List, [], ◌∷◌, ◌++◌, map, Option, Some, None, IfSome, Result, Ok, Err, refl, sym, ◌∙◌, ap, subst, append_assoc}
use Rattle.std.specs.Prelude.{◌&&◌}
use Rattle.std.specs.List.{AllByRecursion}
use Rattle.std.specs.List.Sorted.{IsStrictlySortedBy}
use Rattle.std.specs.declared.cmp.Ordering.{Ordering}
use Rattle.std.specs.declared.cmp.Ordering.TheVariants.{Less, Equal, Greater}
use Rattle.std.specs.Ordering.{is_gt, ordering_reverse}
use Rattle.std.specs.Cmp.{IsTotalOrder, on_total, back_total, then_total, nat_cmp_total}
use Rattle.std.specs.Cmp.Lexicographic.{nat_list_cmp_total}
use Rattle.rk_bytes.specs.declared.model.key.Record.{Record}
use Rattle.rk_bytes.specs.declared.model.manifest.FileMeta.{FileMeta}
use Rattle.rk_bytes.specs.declared.model.open.OpenErr.{OpenErr}
use Rattle.rk_bytes.specs.declared.model.open.OpenErr.TheVariants.{OutOfBounds}
use Rattle.rk_bytes.specs.declared.model.open.OpenErr.TheVariants as open_err
use Rattle.rk_bytes.specs.Model.DiskImages.{Directory}
use Rattle.rk_bytes.specs.Model.InternalKey.{user_key, packed, key_cmp, top_sequence}
use Rattle.rk_bytes.specs.Model.KeyView.{key_of}
use Rattle.rk_bytes.specs.Model.Opening.{are_within}
use Rattle.rk_bytes.specs.Model.TableStatus.{is_above}
use Rattle.rk_sst.specs.Seen.{OpenSeen}
use Rattle.rk_sst.specs.Opened.{records_left}
use Rattle.rk_sst.specs.declared.error.SstErr.{SstErr}
use Rattle.rk_sst.specs.declared.error.SstErr.TheVariants.{NoTable, Damaged, Unsupported, DiskFault, Memory}
use Rattle.rk_sst.specs.Errors.{IsCause}
use Rattle.rk_sst.specs.Rising.{IsOfTable, Ascend, RiseFrom, last_given}
use Rattle.rk_view.specs.Kept.{IsTableRun}
use Rattle.rk_open.specs.Answers.{RefusesAs}
use Rattle.rk_open.specs.Faults.{table_fault}
use Rattle.rk_open.specs.Tables.{run_within}
use Rattle.rk_open.proofs.BoundLemmas.{within_append}

each_both : {A : Type 0} (P : A → Type 0) (xs ys : List A) → AllByRecursion P xs → AllByRecursion P ys → AllByRecursion P (xs ++ ys)
each_both P [] ys a b = b
each_both P (x ∷ xs) ys a b = (a.0, each_both P xs ys a.1 b)

ascend_both : (before : Option (List ℕ)) (xs ys : List Record) → Ascend before (map key_of xs) → Ascend (last_given before xs) (map key_of ys) → Ascend before (map key_of (xs ++ ys))
ascend_both before [] ys a b = b
ascend_both before (x ∷ xs) ys a b = (a.0, ascend_both (Some (key_of x)) xs ys a.1 b)

-- records that rise, and then others that rise from the last of them
pub rise_both : (family : ℕ) (before : Option (List ℕ)) (xs ys : List Record) → RiseFrom family before xs → RiseFrom family (last_given before xs) ys → RiseFrom family before (xs ++ ys)
rise_both family before xs ys a b = record { each = each_both (IsOfTable family) xs ys a.each b.each; rise = ascend_both before xs ys a.rise b.rise }

pub last_both : (before : Option (List ℕ)) (xs ys : List Record) → last_given (last_given before xs) ys ≡ last_given before (xs ++ ys)
last_both before [] ys = refl
last_both before (x ∷ xs) ys = last_both (Some (key_of x)) xs ys

key_cmp-total : IsTotalOrder key_cmp
key_cmp-total = then_total (on_total user_key nat_list_cmp_total) (back_total (on_total packed nat_cmp_total))

-- the keys of a table's records stand in their strict order
below_key : (key before : List ℕ) → is_above key_cmp key (Some before) ≡ true → key_cmp before key ≡ Less
below_key key before above = by (key_cmp key before) refl above
  where
    by : (o : Ordering) → key_cmp key before ≡ o → is_gt o ≡ true → key_cmp before key ≡ Less
    by Less is e = absurd cc
    by Equal is e = absurd cc
    by Greater is e = key_cmp-total.antisymm before key ∙ ap ordering_reverse is

-- of rising records all are sorted
all_above : (before : List ℕ) (keys : List (List ℕ)) → Ascend (Some before) keys → AllByRecursion (λ key. key_cmp before key ≡ Less) keys
all_above before [] rise = tt
all_above before (key ∷ keys) rise = let first = below_key key before rise.0 in (first, further before key keys first (all_above key keys rise.1))
  where
    further : (before key : List ℕ) (keys : List (List ℕ)) → key_cmp before key ≡ Less → AllByRecursion (λ other. key_cmp key other ≡ Less) keys → AllByRecursion (λ other. key_cmp before other ≡ Less) keys
    further before key [] first all = tt
    further before key (other ∷ keys) first all = (key_cmp-total.trans before key other first all.0, further before key keys first all.1)

sorted_keys : (before : Option (List ℕ)) (keys : List (List ℕ)) → Ascend before keys → IsStrictlySortedBy key_cmp keys
unfolding IsStrictlySortedBy
sorted_keys before [] rise = tt
sorted_keys before (key ∷ keys) rise = (all_above key keys rise.1, sorted_keys (Some key) keys rise.1)

-- such records are a table's run
pub table_run : (family : ℕ) (before : Option (List ℕ)) (records : List Record) → RiseFrom family before records → IsTableRun records
table_run family before records rise = record { family = family; each = rise.each; rises = sorted_keys before (map key_of records) rise.rise }

pub numbered : (family : ℕ) (records : List Record) → AllByRecursion (IsOfTable family) records → AllByRecursion (λ r. r.sequence ≤ top_sequence) records
numbered family [] each = tt
numbered family (r ∷ records) each = (each.0.2, numbered family records each.1)

-- where all lie within the bounds, the run is theirs
pub within_run : (file : FileMeta) (run : List Record) → are_within file run ≡ true → run_within file run ≡ Ok run
within_run file run e = ap (λ (b : Bool). cond b (Ok run) (Err (OutOfBounds file.number))) e

pub within_both : (file : FileMeta) (xs ys : List Record) → are_within file xs ≡ true → are_within file ys ≡ true → are_within file (xs ++ ys) ≡ true
within_both file xs ys a b = within_append file xs ys ∙ (λ i. a i && b i)

-- where some lie outside, so do some of the whole
pub outside_whole : (file : FileMeta) (xs ys zs : List Record) (why : OpenErr) → run_within file ys ≡ Err why → run_within file (xs ++ (ys ++ zs)) ≡ Err why
outside_whole file xs ys zs why e = by (are_within file xs) (are_within file ys) (are_within file zs) (within_append file xs (ys ++ zs) ∙ ap (λ b. are_within file xs && b) (within_append file ys zs)) e
  where
    by : (a b c : Bool) → are_within file (xs ++ (ys ++ zs)) ≡ (a && (b && c)) → cond b (Ok ys) (Err (OutOfBounds file.number)) ≡ Err why → run_within file (xs ++ (ys ++ zs)) ≡ Err why
    by a true c whole e = absurd cc
    by true false c whole e = ap (λ (b : Bool). cond b (Ok (xs ++ (ys ++ zs))) (Err (OutOfBounds file.number))) whole ∙ e
    by false false c whole e = ap (λ (b : Bool). cond b (Ok (xs ++ (ys ++ zs))) (Err (OutOfBounds file.number))) whole ∙ e

append_none : {A : Type 0} (xs : List A) → xs ++ [] ≡ xs
append_none [] = refl
append_none (x ∷ xs) = ap (λ l. x ∷ l) (append_none xs)

-- What is refused in one answer is refused in another.
pub refuses_on : {T U : Type 0} (one : Result T OpenErr) (other : Result U OpenErr) (why : OpenErr) → ((why : OpenErr) → one ≡ Err why → other ≡ Err why) → RefusesAs one why → RefusesAs other why
refuses_on one other open_err.NoCurrent on refuses = on open_err.NoCurrent refuses
refuses_on one other (open_err.BadCurrent a) on refuses = on (open_err.BadCurrent a) refuses
refuses_on one other (open_err.NoManifest a) on refuses = on (open_err.NoManifest a) refuses
refuses_on one other (open_err.Manifest a) on refuses = on (open_err.Manifest a) refuses
refuses_on one other (open_err.MissingTable a) on refuses = on (open_err.MissingTable a) refuses
refuses_on one other (open_err.SizeMismatch a b c) on refuses = on (open_err.SizeMismatch a b c) refuses
refuses_on one other (open_err.DamagedTable a b c) on refuses = on (open_err.DamagedTable a b c) refuses
refuses_on one other (open_err.UnsupportedTable a b) on refuses = on (open_err.UnsupportedTable a b) refuses
refuses_on one other (OutOfBounds a) on refuses = on (OutOfBounds a) refuses
refuses_on one other (open_err.MissingLog a) on refuses = on (open_err.MissingLog a) refuses
refuses_on one other (open_err.ShortLog a b c) on refuses = on (open_err.ShortLog a b c) refuses
refuses_on one other (open_err.Wal a) on refuses = on (open_err.Wal a) refuses
refuses_on one other open_err.NoUsableManifest on refuses = on open_err.NoUsableManifest refuses
refuses_on one other open_err.DiskFault on refuses = tt
refuses_on one other open_err.Memory on refuses = tt

-- The records of one more block come to those that are there.
module _ (first old : OpenSeen) (run records after : List Record) (joined : after ≡ run ++ records) where
  pub run_more : (o : Option Directory) (new : OpenSeen) → IfSome o (λ d. records_left first d ≡ run ++ records_left old d) → IfSome o (λ d. records_left old d ≡ records ++ records_left new d) → IfSome o (λ d. records_left first d ≡ after ++ records_left new d)
  run_more None new so_far given = tt
  run_more (Some d) new so_far given = so_far ∙ ap (λ l. run ++ l) given ∙ sym (append_assoc run records (records_left new d)) ∙ ap (λ l. l ++ records_left new d) (sym joined)

  pub rise_more : old.table ≡ first.table → old.last ≡ last_given first.last run → RiseFrom first.table.family first.last run → RiseFrom old.table.family old.last records → RiseFrom first.table.family first.last after
  rise_more table last so_far given =
      subst (RiseFrom first.table.family first.last) (sym joined) (rise_both first.table.family first.last run records so_far
      (subst (λ (l : Option (List ℕ)). RiseFrom first.table.family l records) last (subst (λ (family : ℕ). RiseFrom family old.last records) (ap (λ table. table.family) table) given)))

  pub last_more : (last : Option (List ℕ)) → old.last ≡ last_given first.last run → last ≡ last_given old.last records → last ≡ last_given first.last after
  last_more last before now = now ∙ ap (λ l. last_given l records) before ∙ last_both first.last run records ∙ ap (last_given first.last) (sym joined)

  -- the refusal of a block's records is that of all
  pub refuse_more : (file : FileMeta) (o : Option Directory) (new : OpenSeen) (why : OpenErr) → IfSome o (λ d. records_left first d ≡ run ++ records_left old d) → IfSome o (λ d. records_left old d ≡ records ++ records_left new d)
      → RefusesAs (run_within file records) why → IfSome o (λ d. RefusesAs (run_within file (records_left first d)) why)
  refuse_more file None new why so_far given refuses = tt
  refuse_more file (Some d) new why so_far given refuses =
      refuses_on (run_within file records) (run_within file (records_left first d)) why (λ why e. ap (run_within file) (so_far ∙ ap (λ l. run ++ l) given) ∙ outside_whole file run records (records_left new d) why e) refuses

-- where none is left, the run is whole
pub run_ends : (file : FileMeta) (o : Option Directory) (first old : OpenSeen) (run : List Record) → are_within file run ≡ true → IfSome o (λ d. records_left first d ≡ run ++ records_left old d) → IfSome o (λ d. records_left old d ≡ []) → IfSome o (λ d. run_within file (records_left first d) ≡ Ok run)
run_ends file None first old run within so_far none = tt
run_ends file (Some d) first old run within so_far none = ap (run_within file) (so_far ∙ ap (λ l. run ++ l) none ∙ append_none run) ∙ within_run file run within

-- a fault that says nothing of a table refuses nothing
pub cause_refuses : {T : Type 0} (wanted : Result T OpenErr) (number : ℕ) (why : SstErr) → IsCause why → RefusesAs wanted (table_fault number why)
cause_refuses wanted number NoTable cause = absurd cause
cause_refuses wanted number (Damaged why place) cause = absurd cause
cause_refuses wanted number (Unsupported what) cause = absurd cause
cause_refuses wanted number DiskFault cause = tt
cause_refuses wanted number Memory cause = tt

pub causes_refuse : (file : FileMeta) (o : Option Directory) (first : OpenSeen) (number : ℕ) (why : SstErr) → IfSome o (λ d. IsCause why) → IfSome o (λ d. RefusesAs (run_within file (records_left first d)) (table_fault number why))
causes_refuse file None first number why cause = tt
causes_refuse file (Some d) first number why cause = cause_refuses (run_within file (records_left first d)) number why cause
