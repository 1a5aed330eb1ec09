-- How far a dump has come.
use Rattle.std.proofs.Common.{◌≡◌, ℕ, ◌<◌, Bool, true, false, List, [], ◌++◌, length, Option, Ok, Err, refl, sym, ap, ◌∙◌, subst, arith}
use Rattle.std.proofs.lemmas.List.{append-nil}
use Rattle.std.proofs.lemmas.Bool.{true≢false}
use Rattle.rk_bytes.specs.Model.LogItems.{Item, rec, gap, end}
use Rattle.rk_bytes.specs.Model.Output.{Took, joined}
use Rattle.rk_log.specs.declared.feed.LogFeed.{LogFeed}
use Rattle.rk_log.specs.Items.{is_end}
use Rattle.rk_log.specs.Left.{Left, Gives, left, bytes_before}
use Rattle.rk_log.specs.Steps.{MayFollow, GivesItem, GoesOn}
use Rattle.rk_ldb.specs.declared.items.Form.{Form}
use Rattle.rk_ldb.specs.declared.stop.Stop.{Stop}
use Rattle.rk_ldb.specs.declared.stop.Stop.TheVariants.{Memory}
use Rattle.rk_ldb.specs.Stops.{TookUpTo}
use Rattle.rk_ldb.specs.Wrote.{Wrote, form_lines, dump_lines, WritesBlock}
use Rattle.rk_ldb.proofs.Taken.{Wrote-more, Wrote-all, Wrote-stopped, Wrote-no_memory}

-- Of a block, whose lines are written as far as the feed has come, whatever was written before the block
-- and whatever follows it.
pub record InBlock (from now : Option (List ℕ)) (form : Form) (old new : LogFeed) (block : List ℕ) (is_last : Bool) : Type 0 where
  pub lines : (start : Option (List ℕ)) (all : List (List ℕ)) (rest : List ℕ) → MayFollow is_last rest
      → Wrote start from all (dump_lines form (left old (block ++ rest)).items) → Wrote start now all (dump_lines form (left new (block ++ rest)).items)
  pub before : bytes_before new ≡ bytes_before old

-- ---- an item that is given

given_lines : (form : Form) (old new : Left) (item : Item) → Gives old item new → is_end item ≡ false → dump_lines form old.items ≡ form_lines form item ++ dump_lines form new.items
given_lines form old new (rec payload place) gives more = ap (dump_lines form) gives.0
given_lines form old new (gap why place) gives more = ap (dump_lines form) gives.0
given_lines form old new (end kind place) gives more = absurd (true≢false more)

end_lines : (form : Form) (old new : Left) (item : Item) → Gives old item new → is_end item ≡ true → dump_lines form old.items ≡ form_lines form item ++ []
end_lines form old new (rec payload place) gives last = absurd (true≢false (sym last))
end_lines form old new (gap why place) gives last = absurd (true≢false (sym last))
end_lines form old new (end kind place) gives last = ap (dump_lines form) gives.0

some_lines : (form : Form) (old new : Left) (item : Item) → Gives old item new → (rest : List (List ℕ)) × (dump_lines form old.items ≡ form_lines form item ++ rest)
some_lines form old new (rec payload place) gives = (dump_lines form new.items, ap (dump_lines form) gives.0)
some_lines form old new (gap why place) gives = (dump_lines form new.items, ap (dump_lines form) gives.0)
some_lines form old new (end kind place) gives = ([], ap (dump_lines form) gives.0)

fewer_items : (old new : Left) (item : Item) → Gives old item new → is_end item ≡ false → length new.items < length old.items
fewer_items old new (rec payload place) gives more = omega (arith, ap length gives.0)
fewer_items old new (gap why place) gives more = omega (arith, ap length gives.0)
fewer_items old new (end kind place) gives more = absurd (true≢false more)

-- ---- within a block

pub InBlock-start : (taken : Option (List ℕ)) (form : Form) (feed : LogFeed) (block : List ℕ) (is_last : Bool) → InBlock taken taken form feed feed block is_last
InBlock-start taken form feed block is_last = record { lines = λ start all rest follows h. h; before = refl }

pub InBlock-more : (from between now : Option (List ℕ)) (form : Form) (old mid new : LogFeed) (block : List ℕ) (is_last : Bool) (item : Item) → InBlock from between form old mid block is_last
    → GivesItem mid block is_last item new → is_end item ≡ false → Took between now (joined (form_lines form item)) → InBlock from now form old new block is_last
InBlock-more from between now form old mid new block is_last item h gives more took = record {
  lines = λ start all rest follows wrote.
      let given = given_lines form (left mid (block ++ rest)) (left new (block ++ rest)) item (gives.gives rest follows) more in
      Wrote-more start between now all (form_lines form item) (dump_lines form (left new (block ++ rest)).items) (subst (Wrote start between all) given (h.lines start all rest follows wrote)) took;
  before = gives.before ∙ h.before;
}

pub InBlock-end : (from between now : Option (List ℕ)) (form : Form) (old mid new : LogFeed) (block : List ℕ) (is_last : Bool) (item : Item) → InBlock from between form old mid block is_last
    → GivesItem mid block is_last item new → is_end item ≡ true → Took between now (joined (form_lines form item)) → WritesBlock from now form old block is_last (Ok true) new
InBlock-end from between now form old mid new block is_last item h gives last took = λ start all rest follows wrote.
    let given = end_lines form (left mid (block ++ rest)) (left new (block ++ rest)) item (gives.gives rest follows) last in
    Wrote-all start now all (Wrote-more start between now all (form_lines form item) [] (subst (Wrote start between all) given (h.lines start all rest follows wrote)) took)

pub InBlock-stopped : (from between now : Option (List ℕ)) (form : Form) (old mid new : LogFeed) (block : List ℕ) (is_last : Bool) (item : Item) (stop : Stop) → InBlock from between form old mid block is_last
    → GivesItem mid block is_last item new → TookUpTo {T = Bool} between now (form_lines form item) (Err stop) → WritesBlock from now form old block is_last (Err stop) new
InBlock-stopped from between now form old mid new block is_last item stop h gives took = λ start all rest follows wrote.
    let given = some_lines form (left mid (block ++ rest)) (left new (block ++ rest)) item (gives.gives rest follows) in
    Wrote-stopped Bool (Unit {0}) start between now all (form_lines form item) given.0 stop (subst (Wrote start between all) given.1 (h.lines start all rest follows wrote)) took

pub InBlock-no_memory : (from now : Option (List ℕ)) (form : Form) (old mid new : LogFeed) (block : List ℕ) (is_last : Bool) (stop : Stop) → stop ≡ Memory → InBlock from now form old mid block is_last
    → WritesBlock from now form old block is_last (Err stop) new
InBlock-no_memory from now form old mid new block is_last stop is h = λ start all rest follows wrote.
    Wrote-no_memory (Unit {0}) start now all (dump_lines form (left mid (block ++ rest)).items) stop is (h.lines start all rest follows wrote)

pub InBlock-goes_on : (from now : Option (List ℕ)) (form : Form) (old mid new : LogFeed) (block : List ℕ) (is_last : Bool) → InBlock from now form old mid block is_last
    → GoesOn mid block is_last new → WritesBlock from now form old block is_last (Ok false) new
InBlock-goes_on from now form old mid new block is_last h goes = λ start all rest follows wrote.
    subst (λ (left : Left). Wrote start now all (dump_lines form left.items)) (sym (goes.same rest)) (h.lines start all rest follows wrote)

pub fewer_left : (old new : LogFeed) (block : List ℕ) (is_last : Bool) (item : Item) → GivesItem old block is_last item new → is_end item ≡ false → length (left new block).items < length (left old block).items
fewer_left old new block is_last item gives more =
    subst (λ bytes. length (left new bytes).items < length (left old bytes).items) (append-nil block)
    (fewer_items (left old (block ++ [])) (left new (block ++ [])) item (gives.gives [] (λ last. refl)) more)
