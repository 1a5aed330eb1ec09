-- What is left, by the next mark.
use Rattle.std.proofs.Common.{◌≡◌, ℕ, true, List, [], ◌∷◌, ◌++◌, Option, Some, None, refl, sym, ap, subst, ◌∙◌}
use Rattle.std.proofs.lemmas.Bool.{false≢true}
use Rattle.rk_bytes.specs.declared.model.log.GapWhy.{GapWhy}
use Rattle.rk_bytes.specs.declared.model.log.GapWhy.TheVariants.{MissingStart, MissingEnd}
use Rattle.rk_bytes.specs.declared.model.log.EndKind.TheVariants.{Clean, Torn, Stale, Unsupported}
use Rattle.rk_bytes.specs.Model.LogMarks.{Mark, full, first, middle, last, fault, cut, stale, unsupported, file_end, up_to_end}
use Rattle.rk_bytes.specs.Model.LogItems.{Item, rec, gap, end, begins_record}
use Rattle.rk_log.specs.declared.joining.Unfinished.{Unfinished}
use Rattle.rk_log.specs.declared.joining.End.{End}
use Rattle.rk_log.specs.declared.joining.Joining.{Joining}
use Rattle.rk_log.specs.declared.fragment.Mark as Found
use Rattle.rk_log.specs.Fragments.{mark_at}
use Rattle.rk_log.specs.Left.{Left, Gives, end_left, splits_next, begun, left_of, left_behind}
use Rattle.rk_log.specs.Steps.{end_in}

pub left_behind-open : (joining : Joining) (unfinished : Option Unfinished) (file_len : ℕ) (marks : List Mark) → joining.given ≡ None → joining.unfinished ≡ unfinished
    → left_behind joining file_len marks ≡ left_of (begun unfinished) (up_to_end file_len marks)
unfolding left_behind
left_behind-open joining unfinished file_len marks goes_on is =
    ap (λ given. elim given as (λ _. Left) [ Some one ↦ end_left (end one.kind one.place) | None ↦ left_of (begun joining.unfinished) (up_to_end file_len marks) ]) goes_on
    ∙ ap (λ one. left_of (begun one) (up_to_end file_len marks)) is

-- where the next mark is this one
pub left_behind-at : (joining : Joining) (unfinished : Option Unfinished) (mark told : Found.Mark) (place file_len : ℕ) (marks : List Mark)
    → joining.given ≡ None → joining.unfinished ≡ unfinished → mark ≡ told
    → left_behind joining file_len (mark_at place mark ∷ marks) ≡ left_of (begun unfinished) (up_to_end file_len (mark_at place told ∷ marks))
left_behind-at joining unfinished mark told place file_len marks goes_on unfinished_is mark_is =
    left_behind-open joining unfinished file_len (mark_at place mark ∷ marks) goes_on unfinished_is
    ∙ ap (λ one. left_of (begun unfinished) (up_to_end file_len (mark_at place one ∷ marks))) mark_is

pub left_behind-ended : (joining : Joining) (one : End) (file_len : ℕ) (marks : List Mark) → joining.given ≡ Some one → left_behind joining file_len marks ≡ end_left (end one.kind one.place)
unfolding left_behind
left_behind-ended joining one file_len marks ended =
    ap (λ given. elim given as (λ _. Left) [ Some one ↦ end_left (end one.kind one.place) | None ↦ left_of (begun joining.unfinished) (up_to_end file_len marks) ]) ended

pub Gives-at : (item : Item) {old other new later : Left} {told : Item} → old ≡ other → told ≡ item → new ≡ later → Gives other item later → Gives old told new
Gives-at item {old = old} {other = other} {new = new} {later = later} {told = told} before is after gives =
    subst (λ left. Gives left told new) (sym before) (subst (λ one. Gives other one new) (sym is) (subst (λ left. Gives other item left) (sym after) gives))

-- the unfinished record is put back as it was
pub put_back : (joining : Joining) (one : Unfinished) (payload : List ℕ) → joining.unfinished ≡ Some one → payload ≡ one.payload
    → record joining { unfinished = Some (record { payload = payload; place = one.place }) } ≡ joining
put_back joining one payload some same =
    let unfinished : Some (record { payload = payload; place = one.place }) ≡ joining.unfinished = ap (λ bytes. Some (record one { payload = bytes })) same ∙ sym some in
    λ i. record joining { unfinished = unfinished i }

pub full_given : (payload : List ℕ) (place file_len : ℕ) (marks : List Mark) → Gives (left_of None (up_to_end file_len (full payload place ∷ marks))) (rec payload place) (left_of None (up_to_end file_len marks))
unfolding left_of
full_given payload place file_len marks = (refl, refl)

pub first_taken : (payload : List ℕ) (place file_len : ℕ) (marks : List Mark) → left_of (Some (payload, place)) (up_to_end file_len marks) ≡ left_of None (up_to_end file_len (first payload place ∷ marks))
unfolding left_of
first_taken payload place file_len marks = refl

pub middle_taken : (front payload : List ℕ) (from place file_len : ℕ) (marks : List Mark) → left_of (Some (front ++ payload, from)) (up_to_end file_len marks) ≡ left_of (Some (front, from)) (up_to_end file_len (middle payload place ∷ marks))
unfolding left_of
middle_taken front payload from place file_len marks = refl

pub last_given : (front payload : List ℕ) (from place file_len : ℕ) (marks : List Mark) → Gives (left_of (Some (front, from)) (up_to_end file_len (last payload place ∷ marks))) (rec (front ++ payload) from) (left_of None (up_to_end file_len marks))
unfolding left_of
last_given front payload from place file_len marks = (refl, refl)

pub middle_missed : (payload : List ℕ) (place file_len : ℕ) (marks : List Mark) → Gives (left_of None (up_to_end file_len (middle payload place ∷ marks))) (gap MissingStart place) (left_of None (up_to_end file_len marks))
unfolding left_of
middle_missed payload place file_len marks = (refl, refl)

pub last_missed : (payload : List ℕ) (place file_len : ℕ) (marks : List Mark) → Gives (left_of None (up_to_end file_len (last payload place ∷ marks))) (gap MissingStart place) (left_of None (up_to_end file_len marks))
unfolding left_of
last_missed payload place file_len marks = (refl, refl)

pub fault_given : (unfinished : Option Unfinished) (why : GapWhy) (place file_len : ℕ) (marks : List Mark) → Gives (left_of (begun unfinished) (up_to_end file_len (fault why place ∷ marks))) (gap why place) (left_of None (up_to_end file_len marks))
unfolding left_of
fault_given None why place file_len marks = (refl, refl)
fault_given (Some one) why place file_len marks = (refl, refl)

pub stale_given : (unfinished : Option Unfinished) (place file_len : ℕ) (marks : List Mark) → Gives (left_of (begun unfinished) (up_to_end file_len (stale place ∷ marks))) (end Stale place) (end_left (end Stale place))
unfolding left_of
stale_given None place file_len marks = (refl, refl)
stale_given (Some one) place file_len marks = (refl, refl)

pub unsupported_given : (unfinished : Option Unfinished) (kind place file_len : ℕ) (marks : List Mark) → Gives (left_of (begun unfinished) (up_to_end file_len (unsupported kind place ∷ marks))) (end (Unsupported kind) place) (end_left (end (Unsupported kind) place))
unfolding left_of
unsupported_given None kind place file_len marks = (refl, refl)
unsupported_given (Some one) kind place file_len marks = (refl, refl)

pub cut_given : (unfinished : Option Unfinished) (place file_len : ℕ) (marks : List Mark) → let one = end_in unfinished Torn place in Gives (left_of (begun unfinished) (up_to_end file_len (cut place ∷ marks))) (end one.kind one.place) (end_left (end one.kind one.place))
unfolding left_of
cut_given None place file_len marks = (refl, refl)
cut_given (Some one) place file_len marks = (refl, refl)

pub file_end_given : (unfinished : Option Unfinished) (file_len : ℕ) → let one = end_in unfinished Clean file_len in Gives (left_of (begun unfinished) (up_to_end file_len [])) (end one.kind one.place) (end_left (end one.kind one.place))
unfolding left_of
file_end_given None file_len = (refl, refl)
file_end_given (Some one) file_len = (refl, refl)

pub broken_off : (one : Unfinished) (mark : Mark) (file_len : ℕ) (marks : List Mark) → begins_record mark ≡ true → Gives (left_of (begun (Some one)) (up_to_end file_len (mark ∷ marks))) (gap MissingEnd one.place) (left_of None (up_to_end file_len (mark ∷ marks)))
unfolding left_of
broken_off one (full payload place) file_len marks begins = (refl, refl)
broken_off one (first payload place) file_len marks begins = (refl, refl)
broken_off one (middle payload place) file_len marks begins = absurd (false≢true begins)
broken_off one (last payload place) file_len marks begins = absurd (false≢true begins)
broken_off one (fault why place) file_len marks begins = absurd (false≢true begins)
broken_off one (cut place) file_len marks begins = absurd (false≢true begins)
broken_off one (stale place) file_len marks begins = absurd (false≢true begins)
broken_off one (unsupported kind place) file_len marks begins = absurd (false≢true begins)
broken_off one (file_end place) file_len marks begins = absurd (false≢true begins)

pub begun_splits : (one : Unfinished) (file_len : ℕ) (marks : List Mark) → splits_next (left_of (begun (Some one)) (up_to_end file_len marks)) ≡ true
unfolding left_of
begun_splits one file_len [] = refl
begun_splits one file_len (full payload place ∷ marks) = refl
begun_splits one file_len (first payload place ∷ marks) = refl
begun_splits one file_len (middle payload place ∷ marks) = begun_splits one file_len marks
begun_splits one file_len (last payload place ∷ marks) = refl
begun_splits one file_len (fault why place ∷ marks) = refl
begun_splits one file_len (cut place ∷ marks) = refl
begun_splits one file_len (stale place ∷ marks) = refl
begun_splits one file_len (unsupported kind place ∷ marks) = refl
begun_splits one file_len (file_end place ∷ marks) = refl

pub first_splits : (payload : List ℕ) (place file_len : ℕ) (marks : List Mark) → splits_next (left_of None (up_to_end file_len (first payload place ∷ marks))) ≡ true
unfolding left_of
first_splits payload place file_len marks = begun_splits (record { payload = payload; place = place }) file_len marks
