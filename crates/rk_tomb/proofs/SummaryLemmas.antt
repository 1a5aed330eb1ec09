-- A run whose middle is written, after what is before it and what is after it.
use Rattle.std.proofs.Common.{◌≡◌, ℕ, ◌+◌, ◌-◌, ◌/◌, ◌<◌, List, [], ◌∷◌, ◌++◌, length, take, drop, get_or, set, sym, ap, ◌∙◌, subst, arith, length-append, length-take, length-drop, take-append-drop, append_assoc}
use Rattle.std.specs.Prelude.{Option, Some, None, IfSome, IfNone}
use Rattle.std.specs.List.{All}
use Rattle.std.proofs.lemmas.List.{length-map, map-append, append-nil, drop_more, drop_all, take_rest, take_at, drop_at, set_at, get_or_at}
use Rattle.std.proofs.lemmas.List.Elements.{All-nil, All-same, All-append, All-cons}
use borrow.Rule.Slice.PartMut.{put_mid}
use Rattle.rk_bytes.specs.declared.model.view.Tomb.{Tomb}
use Rattle.rk_tomb.specs.declared.index.Node.{Node}
use Rattle.rk_tomb.specs.declared.span.Span.{Span}
use Rattle.rk_tomb.specs.Spans.{tomb_at, IsWithin}
use Rattle.rk_tomb.specs.Index.{places, IsPlaced, IsSpanned, IsRun}
use Rattle.rk_tomb.proofs.PartLemmas.{IsRun-made}

-- each range deletion of the nodes is within the span
abbrev pub AllWithin : List Tomb → Span → List Node → Type 0
AllWithin tombs span nodes = All (λ node. IsWithin tombs span (tomb_at tombs node.place)) nodes

-- what is within the span of a part, if that has one, is within a span that takes it in
pub AllWithin-part : (tombs : List Tomb) (span : Span) (of_part : Option Span) (nodes : List Node) → IfNone of_part (nodes ≡ []) → IfSome of_part (λ own. AllWithin tombs own nodes)
    → ((tomb : Tomb) → IfSome of_part (λ own. IsWithin tombs own tomb → IsWithin tombs span tomb)) → AllWithin tombs span nodes
AllWithin-part tombs span None nodes none some wider =
    All-same (λ node. IsWithin tombs span (tomb_at tombs node.place)) nodes [] none (All-nil (λ node. IsWithin tombs span (tomb_at tombs node.place)))
AllWithin-part tombs span (Some own) nodes none some wider = λ k d lt. wider (tomb_at tombs (get_or nodes k d).place) (some k d lt)

-- nodes with the same places are as many
pub length-places : (xs ys : List Node) → places xs ≡ places ys → length xs ≡ length ys
length-places xs ys same = sym (length-map xs (λ node. node.place)) ∙ ap length same ∙ length-map ys (λ node. node.place)

module _ (run before : List Node) (d : Node) (some : 0 < length run) (before_same : places before ≡ places (take (length run / 2) run)) where
  before_length : length before ≡ length run / 2
  before_length = length-places before (take (length run / 2) run) before_same ∙ (omega (arith, length-take (length run / 2) run))

  parts : drop (length run / 2) run ≡ get_or run (length run / 2) d ∷ drop (length run / 2 + 1) run
  parts = let in_run : length run / 2 < length run = omega arith in drop_more run (length run / 2) d in_run

  halfway : before ++ drop (length run / 2) run ≡ (before ++ get_or run (length run / 2) d ∷ []) ++ drop (length run / 2 + 1) run
  halfway = ap (λ rest. before ++ rest) parts ∙ sym (append_assoc before (get_or run (length run / 2) d ∷ []) (drop (length run / 2 + 1) run))

  front_length : length (before ++ get_or run (length run / 2) d ∷ []) ≡ length run / 2 + 1
  front_length = omega (arith, length-append before (get_or run (length run / 2) d ∷ []), before_length)

  -- what is still to be summarized after the first half
  pub rest_left : take (length (before ++ drop (length run / 2) run) - (length run / 2 + 1)) (drop (length run / 2 + 1) (before ++ drop (length run / 2) run)) ≡ drop (length run / 2 + 1) run
  rest_left =
      take_rest (before ++ drop (length run / 2) run) (length run / 2 + 1)
      ∙ ap (λ xs. drop (length run / 2 + 1) xs) halfway
      ∙ drop_at (before ++ get_or run (length run / 2) d ∷ []) (drop (length run / 2 + 1) run) (length run / 2 + 1) front_length

  module _ (after : List Node) (node : Node) (after_same : places after ≡ places (drop (length run / 2 + 1) run)) where
    -- the run as it is written
    pub written : set (put_mid (length run / 2 + 1) (length (before ++ drop (length run / 2) run) - (length run / 2 + 1)) (before ++ drop (length run / 2) run) after) (length run / 2) node ≡ before ++ node ∷ after
    written =
        let m : ℕ = length run / 2 in
        let y : Node = get_or run m d in
        let xs : List Node = before ++ drop m run in
        let taken : take (m + 1) xs ≡ before ++ y ∷ [] = ap (take (m + 1)) halfway ∙ take_at (before ++ y ∷ []) (drop (m + 1) run) (m + 1) front_length in
        let none : drop (length xs - (m + 1)) (drop (m + 1) xs) ≡ [] = drop_all (length xs - (m + 1)) (drop (m + 1) xs) (omega (arith, length-drop (m + 1) xs)) in
        let joined : take (m + 1) xs ++ (after ++ drop (length xs - (m + 1)) (drop (m + 1) xs)) ≡ before ++ y ∷ after =
        (λ i. taken i ++ (after ++ none i)) ∙ ap (λ zs. (before ++ y ∷ []) ++ zs) (append-nil after) ∙ append_assoc before (y ∷ []) after in
        ap (λ zs. set zs m node) joined ∙ set_at before y after node m before_length

    after_length : length after ≡ length run - (length run / 2 + 1)
    after_length = length-places after (drop (length run / 2 + 1) run) after_same ∙ length-drop (length run / 2 + 1) run

    all_length : length (before ++ node ∷ after) ≡ length run
    all_length = omega (arith, length-append before (node ∷ after), before_length, after_length)

    pub places-written : node.place ≡ (get_or run (length run / 2) d).place → places (before ++ node ∷ after) ≡ places run
    places-written own =
        let m : ℕ = length run / 2 in
        map-append (λ (other : Node). other.place) before (node ∷ after)
        ∙ (λ i. before_same i ++ own i ∷ after_same i)
        ∙ sym (map-append (λ (other : Node). other.place) (take m run) (get_or run m d ∷ drop (m + 1) run))
        ∙ ap places (ap (λ rest. take m run ++ rest) (sym parts) ∙ take-append-drop m run)

    pub IsRun-written : (tombs : List Tomb) → IsRun tombs before → IsRun tombs after → AllWithin tombs node.span (before ++ node ∷ after) → IsRun tombs (before ++ node ∷ after)
    unfolding IsSpanned
    IsRun-written tombs first last within =
        let all : List Node = before ++ node ∷ after in
        let middle : length before ≡ length all / 2 = before_length ∙ ap (λ n. n / 2) (sym all_length) in
        let past : length (before ++ node ∷ []) ≡ length all / 2 + 1 = omega (arith, length-append before (node ∷ []), middle) in
        IsRun-made tombs all
        (λ e. subst (λ (own : Node). AllWithin tombs own.span all) (sym (get_or_at before node after e (length all / 2) middle)) within)
        (subst (λ xs. IsRun tombs xs) (sym (take_at before (node ∷ after) (length all / 2) middle)) first)
        (subst (λ xs. IsRun tombs xs) (sym (ap (drop (length all / 2 + 1)) (sym (append_assoc before (node ∷ []) after)) ∙ drop_at (before ++ node ∷ []) after (length all / 2 + 1) past)) last)

-- what is known of the run that is written
pub record Summarized (tombs : List Tomb) (old new : List Node) (span : Span) : Type 0 where
  pub placed : All (IsPlaced (length tombs)) new
  pub same : places new ≡ places old
  pub run : IsRun tombs new
  pub within : AllWithin tombs span new

module _ (tombs : List Tomb) (run before after : List Node) (node d : Node) (some : 0 < length run) where
  pub Summarized-written : places before ≡ places (take (length run / 2) run) → places after ≡ places (drop (length run / 2 + 1) run) → node.place ≡ (get_or run (length run / 2) d).place
      → All (IsPlaced (length tombs)) before → All (IsPlaced (length tombs)) after → IsPlaced (length tombs) node → IsRun tombs before → IsRun tombs after
      → AllWithin tombs node.span before → AllWithin tombs node.span after → IsWithin tombs node.span (tomb_at tombs node.place)
      → Summarized tombs run (set (put_mid (length run / 2 + 1) (length (before ++ drop (length run / 2) run) - (length run / 2 + 1)) (before ++ drop (length run / 2) run) after) (length run / 2) node) node.span
  Summarized-written before_same after_same own before_placed after_placed node_placed before_run after_run before_within after_within node_within =
      let all : List Node = before ++ node ∷ after in
      let within : AllWithin tombs node.span all =
      All-append (λ (other : Node). IsWithin tombs node.span (tomb_at tombs other.place)) before (node ∷ after) before_within
      (All-cons (λ (other : Node). IsWithin tombs node.span (tomb_at tombs other.place)) node after node_within after_within) in
      subst (λ new. Summarized tombs run new node.span) (sym (written run before d some before_same after node after_same)) (record {
        placed = All-append (IsPlaced (length tombs)) before (node ∷ after) before_placed (All-cons (IsPlaced (length tombs)) node after node_placed after_placed);
        same = places-written run before d some before_same after node after_same own;
        run = IsRun-written run before d some before_same after node after_same tombs before_run after_run within;
        within = within;
      })
