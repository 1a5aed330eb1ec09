-- A log of puts, with one put more.
use Rattle.std.proofs.Common.{◌≡◌, ℕ, ◌+◌, List, [], ◌∷◌, ◌++◌, map, Option, None, sym, ap, ◌∙◌, arith}
use Rattle.std.proofs.lemmas.List.{map-append}
use Rattle.std.proofs.lemmas.List.FromFn.{map-range_with_len_more}
use Rattle.rk_bytes.specs.declared.model.key.Record.{Record}
use Rattle.rk_bytes.specs.Model.Writers.{batch_bytes}
use Rattle.rk_bytes.specs.Model.WrittenLogs.{written_log}
use Rattle.rk_bytes.specs.Model.Drill.{up_to, log_of_puts}
use Rattle.rk_gen.specs.Puts.{put_above}

-- the batch of one put
batch : Record → List ℕ
batch put = batch_bytes put.sequence (put ∷ [])

pub log_more : (sequences keys before : ℕ) (number : Option ℕ) (old new payload : List ℕ) → number ≡ None
    → ((payloads : List (List ℕ)) → old ≡ written_log number payloads → new ≡ written_log number (payloads ++ payload ∷ []))
    → old ≡ log_of_puts (map (put_above sequences keys) (up_to before))
    → payload ≡ batch_bytes (sequences + (before + 1)) (put_above sequences keys (before + 1) ∷ [])
    → new ≡ log_of_puts (map (put_above sequences keys) (up_to (before + 1)))
unfolding batch
log_more sequences keys before number old new payload legacy adds so_far is =
    let puts : List Record = map (put_above sequences keys) (up_to before) in
    let put : Record = put_above sequences keys (before + 1) in
    let more : map (put_above sequences keys) (up_to (before + 1)) ≡ puts ++ put ∷ [] = map-range_with_len_more (put_above sequences keys) 1 before (before + 1) (omega arith) in
    let batches : map batch (puts ++ put ∷ []) ≡ map batch puts ++ batch put ∷ [] = map-append batch puts (put ∷ []) in
    let start : old ≡ written_log number (map batch puts) = so_far ∙ ap (λ number. written_log number (map batch puts)) (sym legacy) in
    adds (map batch puts) start
    ∙ ap (λ number. written_log number (map batch puts ++ payload ∷ [])) legacy
    ∙ ap (λ payload. written_log None (map batch puts ++ payload ∷ [])) is
    ∙ ap (written_log None) (sym batches) ∙ ap (λ puts. written_log None (map batch puts)) (sym more)
