-- A feed that has given its end.
use Rattle.std.proofs.Common.{◌≡◌, ℕ, ◌+◌, Bool, true, false, List, [], ◌++◌, length, take, drop, Option, Some, None, inl, inr, refl, sym, ◌∙◌, ap, subst, arith}
use Rattle.std.specs.Prelude.{is_some}
use Rattle.std.proofs.lemmas.Bool.{false≢true}
use Rattle.rk_bytes.specs.declared.model.log.EndKind.TheVariants.{Clean, Torn, Stale, Unsupported}
use Rattle.rk_bytes.specs.Model.LogMarks.{block_len, blocks_marks, file_blocks, up_to_end}
use Rattle.rk_bytes.specs.Model.LogItems.{Item, rec, gap, end}
use Rattle.rk_log.specs.declared.joining.End.{End}
use Rattle.rk_log.specs.declared.feed.LogFeed.{LogFeed}
use Rattle.rk_log.specs.Items.{is_end}
use Rattle.rk_log.specs.Left.{Left, Gives, end_left, left_of, begun, file_of, rest_marks, left_behind, left_in, left, has_ended}
use Rattle.rk_log.specs.Steps.{IsFileEnd, GivesItem}
use Rattle.rk_walmode.specs.Fed.{is_file_end}
use Rattle.rk_walmode.specs.Blocks.{PassesOn}

left_ended : (feed : LogFeed) (one : End) (bytes : List ℕ) → feed.joining.given ≡ Some one → left feed bytes ≡ end_left (end one.kind one.place)
unfolding left left_in left_behind
left_ended feed one bytes is =
    ap (λ (given : Option End). elim given as (λ _. Left) [
      | Some one ↦ end_left (end one.kind one.place)
      | None ↦ left_of (begun feed.joining.unfinished) (up_to_end (feed.before + length bytes) (rest_marks (file_of feed bytes) feed.before feed.at (take block_len bytes) ++ blocks_marks (file_of feed bytes) (feed.before + block_len) (file_blocks (drop block_len bytes))))
    ]) is

end_given : (given : Option End) → is_some given ≡ true → (one : End) × (given ≡ Some one)
end_given (Some one) some = (one, refl)
end_given None some = absurd (false≢true some)

-- the same is left, whatever the bytes are
left_same : (feed : LogFeed) (some other : List ℕ) → has_ended feed ≡ true → left feed some ≡ left feed other
left_same feed some other ended = let given = end_given feed.joining.given ended in left_ended feed given.0 some given.1 ∙ sym (left_ended feed given.0 other given.1)

file_end_is_end : (item : Item) → is_file_end item ≡ true → is_end item ≡ true
file_end_is_end (rec payload place) is = is
file_end_is_end (gap why place) is = is
file_end_is_end (end kind place) is = refl

-- nothing is left but a file's end, which was given
left_at_end : (old new : Left) (item : Item) → is_file_end item ≡ true → Gives old item new → (old.items ≡ new.items) × IsFileEnd new.items
left_at_end old new (rec payload place) is gives = absurd (false≢true is)
left_at_end old new (gap why place) is gives = absurd (false≢true is)
left_at_end old new (end Clean place) is gives = let items = ap (λ (left : Left). left.items) gives.1 in (gives.0 ∙ sym items, (place, inl items))
left_at_end old new (end Torn place) is gives = let items = ap (λ (left : Left). left.items) gives.1 in (gives.0 ∙ sym items, (place, inr items))
left_at_end old new (end Stale place) is gives = absurd (false≢true is)
left_at_end old new (end (Unsupported kind) place) is gives = absurd (false≢true is)

-- before the last block the file's end counts for nothing
pub passes_end : (old new : LogFeed) (block : List ℕ) (is_last : Bool) (item : Item) → GivesItem old block is_last item new → is_last ≡ false → is_file_end item ≡ true → PassesOn old block is_last new
passes_end old new block is_last item gives more is =
    let ended : has_ended new ≡ true = gives.ended ∙ file_end_is_end item is in
    let at : (rest : List ℕ) → ((left old (block ++ rest)).items ≡ (left new (block ++ rest)).items) × IsFileEnd (left new (block ++ rest)).items = λ rest.
    left_at_end (left old (block ++ rest)) (left new (block ++ rest)) item is (gives.gives rest (λ last. absurd (false≢true (sym more ∙ last)))) in
    record {
      not_last = more;
      quiet = subst (λ (left : Left). IsFileEnd left.items) (left_same new (block ++ []) [] ended) (at []).1;
      same = λ rest. ap (λ (left : Left). left.items) (left_same new rest (block ++ rest) ended) ∙ sym (at rest).0;
      before = omega (arith, gives.before);
    }
