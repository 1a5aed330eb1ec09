-- The lines that name a fault.
use Rattle.std.proofs.Common.{◌≡◌, ◌⊎◌, ℕ, ◌≤◌, Bool, true, false, List, [], ◌++◌, length, take, Option, Result, Ok, Err, refl, sym, ap, ◌∙◌, subst, inl, inr, arith, take_all}
use Rattle.std.specs.Prelude.{option_map, OnOk, IsErrOf}
use Rattle.std.proofs.lemmas.List.{append-nil}
use Rattle.rk_bytes.specs.declared.model.status.Status.{Status}
use Rattle.rk_bytes.specs.Model.DiskImages.{Rose, Counts}
use Rattle.rk_bytes.specs.Model.Output.{Took, TookLines, TookFront, joined}
use Rattle.rk_disk.specs.declared.sink.SinkErr.{SinkErr}
use Rattle.rk_disk.specs.declared.sink.SinkErr.TheVariants as sink
use Rattle.rk_disk.specs.Faults.{sink_failed}
use Rattle.rk_ldb.specs.declared.stop.Stop.{Stop}
use Rattle.rk_ldb.specs.declared.stop.Stop.TheVariants.{Disk, Memory}
use Rattle.rk_ldb.specs.Stops.{TookUpTo, SinkCounts}
use Rattle.rk_ldb.specs.Answers.{EndsInFault, TookPart}
use Rattle.rk_ldb.proofs.Taken.{took_nothing, took_more}

pub TookPart-whole : (before after : Option (List ℕ)) (line : List ℕ) (cause : ℕ → Type 0) → Took before after line → TookPart before after line cause
TookPart-whole before after line cause took = record {
  len = length line;
  taken = took ∙ ap (λ b. option_map (λ front. front ++ b) before) (sym (take_all (length line) line (omega arith)));
  whole = λ short. absurd (omega arith);
}

pub TookPart-cut : (before after : Option (List ℕ)) (line : List ℕ) (cause : ℕ → Type 0) → TookFront before after line → ((len : ℕ) → cause len) → TookPart before after line cause
TookPart-cut before after line cause took why = record { len = took.0; taken = took.1; whole = λ short. why took.0 }

pub TookPart-none : (before after : Option (List ℕ)) (line : List ℕ) (cause : ℕ → Type 0) → after ≡ before → cause 0 → TookPart before after line cause
TookPart-none before after line cause same why = record { len = 0; taken = same ∙ took_nothing before; whole = λ short. why }

pub EndsInFault-lines : (before between after : Option (List ℕ)) (lines : List (List ℕ)) (line : List ℕ) (why cause : ℕ → Type 0)
    → TookLines before between lines [] → TookPart between after line why → ((len : ℕ) → why len → cause len) → EndsInFault before after lines line cause
EndsInFault-lines before between after lines line why cause whole part because = record {
  count = whole.0;
  len = part.len;
  taken =
      took_more before between after (joined (take whole.0 lines) ++ []) (take part.len line) whole.1 part.taken
      ∙ ap (λ b. option_map (λ front. front ++ (b ++ take part.len line)) before) (append-nil (joined (take whole.0 lines)));
  whole = λ short. because part.len (part.whole short);
}

-- ---- counts of faults

pub Counts-rise : (failed : Bool) (before now : ℕ) → Counts failed before now → before ≤ now
Counts-rise true before now counts = counts.0
Counts-rise false before now counts = omega (arith, counts)

pub Rose-later : (before between now : ℕ) → Rose before between → between ≤ now → Rose before now
Rose-later before between now rose more = omega (arith, rose, more)

pub Rose-earlier : (before between now : ℕ) → between ≡ before → Rose between now → Rose before now
Rose-earlier before between now same rose = subst (λ n. Rose n now) same rose

-- a line that was tried, whatever stands after it
pub TookPart-tried : (before between after : Option (List ℕ)) (line : List ℕ) (faults_before faults_between faults_after : ℕ) (result : Result (Unit {0}) SinkErr)
    → OnOk result (Took before between line) → (IsErrOf result sink.Failed → TookFront before between line) → (IsErrOf result sink.Memory → between ≡ before)
    → Counts (sink_failed result) faults_before faults_between → after ≡ between → faults_between ≤ faults_after
    → TookPart before after line (λ len. (len ≡ 0) ⊎ Rose faults_before faults_after)
TookPart-tried before between after line n m k (Ok x) ok failed memory counts same more =
    subst (λ taken. TookPart before taken line (λ len. (len ≡ 0) ⊎ Rose n k)) (sym same) (TookPart-whole before between line (λ len. (len ≡ 0) ⊎ Rose n k) ok)
TookPart-tried before between after line n m k (Err sink.Failed) ok failed memory counts same more =
    subst (λ taken. TookPart before taken line (λ len. (len ≡ 0) ⊎ Rose n k)) (sym same)
    (TookPart-cut before between line (λ len. (len ≡ 0) ⊎ Rose n k) (failed refl) (λ len. inr (Rose-later n m k counts.1 more)))
TookPart-tried before between after line n m k (Err sink.Memory) ok failed memory counts same more = TookPart-none before after line (λ len. (len ≡ 0) ⊎ Rose n k) (same ∙ memory refl) (inl refl)

-- all lines were taken, and then nothing more
pub EndsInFault-whole : (before after : Option (List ℕ)) (lines : List (List ℕ)) (line : List ℕ) (why : Type 0) → Took before after (joined lines) → EndsInFault before after lines line (λ len. (len ≡ 0) ⊎ why)
EndsInFault-whole before after lines line why took = record {
  count = length lines;
  len = 0;
  taken = took ∙ ap (λ b. option_map (λ front. front ++ b) before) (sym (append-nil (joined (take (length lines) lines)) ∙ ap joined (take_all (length lines) lines (omega arith))));
  whole = λ short. inl refl;
}

pub TookFront-whole : (before after : Option (List ℕ)) (bytes : List ℕ) → Took before after bytes → TookFront before after bytes
TookFront-whole before after bytes took = (length bytes, took ∙ ap (λ b. option_map (λ front. front ++ b) before) (sym (take_all (length bytes) bytes (omega arith))))

-- ---- what stands at a stop of this kind

pub EndsInFault-disk : (before between after : Option (List ℕ)) (lines : List (List ℕ)) (line : List ℕ) (n m k : ℕ) (stop : Stop) → stop ≡ Disk → TookUpTo {T = Status} before between lines (Err stop)
    → SinkCounts {T = Status} n m (Err stop) → TookPart between after line (λ len. Rose m k) → EndsInFault before after lines line (λ len. Rose n k)
EndsInFault-disk before between after lines line n m k stop is took counts part =
    let quiet = subst (λ s. SinkCounts {T = Status} n m (Err s)) is counts in
    EndsInFault-lines before between after lines line (λ len. Rose m k) (λ len. Rose n k) (subst (λ s. TookUpTo {T = Status} before between lines (Err s)) is took) part (λ len rose. Rose-earlier n m k quiet rose)

pub EndsInFault-memory : (before between after : Option (List ℕ)) (lines : List (List ℕ)) (line : List ℕ) (n m k : ℕ) (stop : Stop) → stop ≡ Memory → TookUpTo {T = Status} before between lines (Err stop)
    → SinkCounts {T = Status} n m (Err stop) → TookPart between after line (λ len. (len ≡ 0) ⊎ Rose m k) → EndsInFault before after lines line (λ len. (len ≡ 0) ⊎ Rose n k)
EndsInFault-memory before between after lines line n m k stop is took counts part =
    let quiet = subst (λ s. SinkCounts {T = Status} n m (Err s)) is counts in
    EndsInFault-lines before between after lines line (λ len. (len ≡ 0) ⊎ Rose m k) (λ len. (len ≡ 0) ⊎ Rose n k) (subst (λ s. TookUpTo {T = Status} before between lines (Err s)) is took) part (because quiet)
  where
    because : m ≡ n → (len : ℕ) → (len ≡ 0) ⊎ Rose m k → (len ≡ 0) ⊎ Rose n k
    because quiet len (inl none) = inl none
    because quiet len (inr rose) = inr (Rose-earlier n m k quiet rose)
