-- The tracked logs of an edit are read just where they are spelled.
use Rattle.std.proofs.Common.{◌≡◌, ℕ, zero, suc, ◌≤◌, Bool, true, false, not, cond, List, [], ◌∷◌, ◌++◌, length, Ok, Err, refl, sym, ◌∙◌, ap, subst, arith}
use Rattle.std.specs.Prelude.{◌==◌}
use Rattle.std.proofs.lemmas.Bool.{eqb-true, not-false}
use Rattle.std.proofs.lemmas.List.{length-append}
use Rattle.rk_bytes.specs.declared.model.number.NumFault.TheVariants.{TooLarge}
use Rattle.rk_bytes.specs.declared.model.manifest.Tracked.{Tracked}
use Rattle.rk_bytes.specs.Model.Numbers.{AreBytes, Read, ◌>>=◌, IsVarint32, IsVarint64, IsPrefixed, varint32_at, varint64_at, prefixed_at}
use Rattle.rk_bytes.specs.Model.VersionEdit.{in_slice, synced_sizes_at, tracked_with, tracked_at, SpellsInSlice, SpellsSyncedSizes, no_size, one_size, SpellsTracked}
use Rattle.rk_bytes.proofs.Callers.Readings.{both_steps, first_step, passed, varint_len, varint32-append, varint64-append, prefixed-append, rest_of_bytes, bytes_before}
use Rattle.rk_laws.proofs.Readers.{Front, Exact, exact_varint32, exact_varint64, exact_prefixed, exact_as, Both, exact_then, Made, exact_made, regroup}

-- the bytes of a slice
slice_bytes : (bytes slice rest part : List ℕ) → AreBytes bytes → bytes ≡ part ++ rest → IsPrefixed part slice → AreBytes slice
slice_bytes bytes slice rest part are whole is =
    rest_of_bytes is.len_bytes slice (subst (λ bytes. AreBytes bytes) is.parts (bytes_before bytes part rest are whole))

-- a value at the front of a slice
pub exact_in_slice : {A : Type 0} (read : List ℕ → Read A) (S : List ℕ → A → Type 0) → Exact read S → Exact (in_slice read) (SpellsInSlice S)
exact_in_slice {A} read S x = record {
  reads = λ bytes r are e.
      both_steps (prefixed_at bytes) _ r e λ slice slice_read e1.
      both_steps (read slice.0) _ r e1 λ value value_read e2.
      let f = exact_prefixed.reads bytes slice are slice_read in
      let v = x.reads slice.0 value (slice_bytes bytes slice.0 slice.1 f.part are f.whole f.spells) value_read in
      let same : (value.0, slice.1) ≡ r = cc in
      subst (λ (r : A × List ℕ). Front (SpellsInSlice S) bytes r) same (record {
        part = f.part;
        whole = f.whole;
        spells = record { slice = slice.0; front = v.part; passed = value.1; whole = f.spells; spelled = v.whole; value = v.spells };
        after = f.after;
      });
  spelled = λ part rest a s.
      first_step (prefixed_at (part ++ rest)) _ (s.slice, rest) (prefixed-append part rest s.slice s.whole)
      ∙ first_step (read s.slice) _ (a, s.passed) (ap read s.spelled ∙ x.spelled s.front s.passed a s.value);
}

-- the sizes that are read are spelled
sizes_read : (n : ℕ) (bytes : List ℕ) (r : List ℕ × List ℕ) → AreBytes bytes → synced_sizes_at n bytes ≡ Ok r → Front SpellsSyncedSizes bytes r
unfolding synced_sizes_at
sizes_read zero bytes r are e = absurd cc
sizes_read (suc n) bytes r are e =
    both_steps (varint32_at bytes) _ r e λ tag tag_read e1.
    let f = exact_varint32.reads bytes tag are tag_read in
    by tag f (tag.0 == 1) refl e1 (λ rest more after. sizes_read n rest more after)
  where
    by : (tag : ℕ × List ℕ) → Front IsVarint32 bytes tag → (told : Bool) → (tag.0 == 1) ≡ told
        → cond told (Ok ([], tag.1)) (cond (not (tag.0 == 2)) (Err TooLarge) (varint64_at tag.1 >>= λ size. synced_sizes_at n size.1 >>= λ more. Ok (size.0 ∷ more.0, more.1))) ≡ Ok r
        → ((rest : List ℕ) (more : List ℕ × List ℕ) → AreBytes rest → synced_sizes_at n rest ≡ Ok more → Front SpellsSyncedSizes rest more)
        → Front SpellsSyncedSizes bytes r
    by tag f true told e1 next =
        let same : ([], tag.1) ≡ r = cc in
        subst (λ (r : List ℕ × List ℕ). Front SpellsSyncedSizes bytes r) same
        (record { part = f.part; whole = f.whole; spells = no_size (subst (λ n. IsVarint32 f.part n) (eqb-true tag.0 1 told) f.spells); after = f.after })
    by tag f false told e1 next =
        let (other, e2) = passed (not (tag.0 == 2)) _ _ r e1 in
        both_steps (varint64_at tag.1) _ r e2 λ size size_read e3.
        both_steps (synced_sizes_at n size.1) _ r e3 λ more more_read e4.
        let s = exact_varint64.reads tag.1 size f.after size_read in
        let m = next size.1 more s.after more_read in
        let is_two : IsVarint32 f.part 2 = subst (λ n. IsVarint32 f.part n) (eqb-true tag.0 2 (not-false _ other)) f.spells in
        let same : (size.0 ∷ more.0, more.1) ≡ r = cc in
        subst (λ (r : List ℕ × List ℕ). Front SpellsSyncedSizes bytes r) same (record {
          part = f.part ++ (s.part ++ m.part);
          whole = f.whole ∙ ap (λ x. f.part ++ x) (s.whole ∙ ap (λ x. s.part ++ x) m.whole) ∙ sym (regroup f.part s.part m.part more.1);
          spells = one_size refl is_two s.spells m.spells;
          after = m.after;
        })

-- the sizes that are spelled are read
sizes_spelled : (n : ℕ) (part rest sizes : List ℕ) → length part ≤ n → SpellsSyncedSizes part sizes → synced_sizes_at n (part ++ rest) ≡ Ok (sizes, rest)
unfolding synced_sizes_at
sizes_spelled zero part rest sizes few (no_size is) = absurd (omega (arith, varint_len part is.groups))
sizes_spelled zero part rest sizes few (one_size {tag_bytes = tag_bytes} {size_bytes = size_bytes} {rest = more} whole is size_is stated) =
    absurd (omega (arith, varint_len tag_bytes is.groups, ap length whole, length-append tag_bytes (size_bytes ++ more)))
sizes_spelled (suc n) part rest sizes few (no_size is) = first_step (varint32_at (part ++ rest)) _ (1, rest) (varint32-append part rest 1 is)
sizes_spelled (suc n) part rest sizes few (one_size {tag_bytes = tag_bytes} {size_bytes = size_bytes} {rest = more} {sizes = later} {size = size} whole is size_is stated) =
    let all : part ++ rest ≡ tag_bytes ++ (size_bytes ++ (more ++ rest)) = ap (λ x. x ++ rest) whole ∙ regroup tag_bytes size_bytes more rest in
    let fewer : length more ≤ n = omega (arith, varint_len tag_bytes is.groups, ap length whole, length-append tag_bytes (size_bytes ++ more), length-append size_bytes more) in
    ap (λ bytes. synced_sizes_at (suc n) bytes) all
    ∙ first_step (varint32_at (tag_bytes ++ (size_bytes ++ (more ++ rest)))) _ (2, size_bytes ++ (more ++ rest)) (varint32-append tag_bytes (size_bytes ++ (more ++ rest)) 2 is)
    ∙ first_step (varint64_at (size_bytes ++ (more ++ rest))) _ (size, more ++ rest) (varint64-append size_bytes (more ++ rest) size size_is)
    ∙ first_step (synced_sizes_at n (more ++ rest)) _ (later, rest) (sizes_spelled n more rest later fewer stated)

exact_sizes : Exact (λ bytes. synced_sizes_at (length bytes) bytes) SpellsSyncedSizes
exact_sizes = record {
  reads = λ bytes r are e. sizes_read (length bytes) bytes r are e;
  spelled = λ part rest sizes s.
      let enough : length part ≤ length (part ++ rest) = omega (arith, length-append part rest) in
      sizes_spelled (length (part ++ rest)) part rest sizes enough s;
}

abbrev TrackedInARow : List ℕ → Tracked → Type 0
TrackedInARow = Both IsVarint64 (λ log. Made (tracked_with log) SpellsSyncedSizes)

exact_tracked_in_a_row : Exact tracked_at TrackedInARow
exact_tracked_in_a_row =
    exact_then varint64_at (λ log bytes. synced_sizes_at (length bytes) bytes >>= λ sizes. Ok (tracked_with log sizes.0, sizes.1)) IsVarint64 _ exact_varint64 λ log.
    exact_made (tracked_with log) (λ bytes. synced_sizes_at (length bytes) bytes) SpellsSyncedSizes exact_sizes

of_a_tracked_row : (part : List ℕ) (tracked : Tracked) → TrackedInARow part tracked → SpellsTracked part tracked
of_a_tracked_row part tracked a =
    let s : SpellsTracked part (tracked_with a.one a.second.of) =
    record { log_bytes = a.front; size_bytes = a.back; sizes = a.second.of; spelled = a.whole; log = a.first; stated = a.second.spells; is = refl } in
    subst (λ tracked. SpellsTracked part tracked) a.second.is s

in_a_tracked_row : (part : List ℕ) (tracked : Tracked) → SpellsTracked part tracked → TrackedInARow part tracked
in_a_tracked_row part tracked s =
    record { one = tracked.log; front = s.log_bytes; back = s.size_bytes; whole = s.spelled; first = s.log; second = record { of = s.sizes; is = sym s.is; spells = s.stated } }

exact_tracked : Exact tracked_at SpellsTracked
exact_tracked = exact_as tracked_at TrackedInARow SpellsTracked exact_tracked_in_a_row of_a_tracked_row in_a_tracked_row

pub exact_added_log : Exact (in_slice tracked_at) (SpellsInSlice SpellsTracked)
exact_added_log = exact_in_slice tracked_at SpellsTracked exact_tracked

pub exact_deleted_log : Exact (in_slice varint64_at) (SpellsInSlice IsVarint64)
exact_deleted_log = exact_in_slice varint64_at IsVarint64 exact_varint64
