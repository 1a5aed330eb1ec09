use Rattle.std.specs.Prelude.{is_some}
use Rattle.rk_log.specs.Items.{is_end}
use Rattle.std.proofs.Common.{◌∷◌, ◌++◌, Some, None, refl, sym, ap, ◌∙◌, subst}
use Rattle.std.proofs.lemmas.Result.{err_from_is_err_and}
use Rattle.rk_bytes.specs.declared.model.log.GapWhy.TheVariants.{MissingStart}
use Rattle.rk_bytes.specs.Model.LogMarks.{middle, last}
use Rattle.rk_bytes.specs.Model.LogItems.{rec, gap, begins_record}
use Rattle.rk_log.specs.Fragments.{mark_at}
use Rattle.rk_log.specs.Left.{splits_next, left_of}
use Rattle.rk_log.specs.Steps.{Takes}
use Rattle.rk_log.proofs.JoinLemmas.{put_back, left_behind-open, left_behind-at, left_behind-ended, Gives-at, full_given, first_taken, middle_taken, last_given, middle_missed, last_missed, fault_given, stale_given, unsupported_given, cut_given, begun_splits, first_splits}
use Rattle.rk_log.proofs.joining.Joining.take.Goals as goal

pub returns-in-Full : goal.returns-in-Full
returns-in-Full c = (
  λ file_len marks.
      let none = c.requires.begins (ap (λ mark. begins_record (mark_at c.args.place mark)) c.in-Full.is) in
      Gives-at (rec c.in-Full.payload.now c.args.place) (left_behind-at c.args.self.now None _ _ c.args.place file_len marks c.requires.goes_on none c.in-Full.is) refl
      (left_behind-open c.args.self.now None file_len marks c.requires.goes_on none)
      (full_given c.in-Full.payload.now c.args.place file_len marks),
  ap is_some c.requires.goes_on,
)

pub returns-in_err-payload-in-First : goal.returns-in_err-payload-in-First
returns-in_err-payload-in-First c =
    let none = c.requires.begins (ap (λ mark. begins_record (mark_at c.args.place mark)) c.in-First.is) in
    let stopped = err_from_is_err_and c.from_residual.result c.from_residual.ensures.1 in
    subst (λ result. Takes c.args.self.now (mark_at c.args.place c.args.mark) result c.args.self.now) (sym stopped.1) (
      refl,
      λ file_len marks.
          ap splits_next (left_behind-at c.args.self.now None _ _ c.args.place file_len marks c.requires.goes_on none c.in-First.is)
          ∙ first_splits c.in-First.payload.now c.args.place file_len marks,
    )

pub returns-in_ok-payload-in-First : goal.returns-in_ok-payload-in-First
returns-in_ok-payload-in-First c = (
  λ file_len marks.
      let none = c.requires.begins (ap (λ mark. begins_record (mark_at c.args.place mark)) c.in-First.is) in
      left_behind-open _ _ file_len marks c.requires.goes_on refl
      ∙ ap (λ payload. left_of (Some (payload, c.args.place)) _) c.in_ok-payload-in-First.ensures
      ∙ first_taken c.in-First.payload.now c.args.place file_len marks
      ∙ sym (left_behind-at c.args.self.now None _ _ c.args.place file_len marks c.requires.goes_on none c.in-First.is),
  c.requires.goes_on,
)

pub returns-in_default : goal.returns-in_default
returns-in_default c = (
  λ file_len marks.
      let none = sym c.take.ensures.value ∙ c.in_default.is in
      Gives-at (gap MissingStart c.args.place) (left_behind-at c.args.self.now None _ _ c.args.place file_len marks c.requires.goes_on none c.in-Middle.is) refl
      (left_behind-open _ None file_len marks c.requires.goes_on c.take.ensures.after)
      (middle_missed c.in-Middle.payload.now c.args.place file_len marks),
  ap is_some c.requires.goes_on,
)

pub returns-in_default-take : goal.returns-in_default-take
returns-in_default-take c = (
  λ file_len marks.
      let none = sym c.take-in-Last.ensures.value ∙ c.in_default-take.is in
      Gives-at (gap MissingStart c.args.place) (left_behind-at c.args.self.now None _ _ c.args.place file_len marks c.requires.goes_on none c.in-Last.is) refl
      (left_behind-open _ None file_len marks c.requires.goes_on c.take-in-Last.ensures.after)
      (last_missed c.in-Last.payload.now c.args.place file_len marks),
  ap is_some c.requires.goes_on,
)

pub returns-in_err-appended-in-Middle : goal.returns-in_err-appended-in-Middle
returns-in_err-appended-in-Middle c =
    let some = sym c.take.ensures.value ∙ c.in-Some.is in
    let stopped = err_from_is_err_and c.from_residual-in_err-appended-in-Middle.result c.from_residual-in_err-appended-in-Middle.ensures.1 in
    subst (λ result. Takes c.args.self.now (mark_at c.args.place c.args.mark) result
    (record c.args.self.now { unfinished = Some (record { payload = c.append-appended.new.self; place = c.in-Some.record.place }) })) (sym stopped.1) (
      put_back c.args.self.now c.in-Some.record _ some c.in_err-appended-in-Middle.ensures.err,
      λ file_len marks.
          ap splits_next (left_behind-at c.args.self.now (Some c.in-Some.record) _ _ c.args.place file_len marks c.requires.goes_on some c.in-Middle.is)
          ∙ begun_splits c.in-Some.record file_len (middle c.in-Middle.payload.now c.args.place ∷ marks),
    )

pub returns-in_ok-appended-in-Middle : goal.returns-in_ok-appended-in-Middle
returns-in_ok-appended-in-Middle c = (
  λ file_len marks.
      let some = sym c.take.ensures.value ∙ c.in-Some.is in
      left_behind-open _ _ file_len marks c.requires.goes_on refl
      ∙ ap (λ payload. left_of (Some (payload, c.in-Some.record.place)) _) c.in_ok-appended-in-Middle.ensures.ok
      ∙ middle_taken c.in-Some.record.payload c.in-Middle.payload.now c.in-Some.record.place c.args.place file_len marks
      ∙ sym (left_behind-at c.args.self.now (Some c.in-Some.record) _ _ c.args.place file_len marks c.requires.goes_on some c.in-Middle.is),
  c.requires.goes_on,
)

pub returns-in-Ok : goal.returns-in-Ok
returns-in-Ok c = (
  λ file_len marks.
      let some = sym c.take-in-Last.ensures.value ∙ c.in-Some-take.is in
      Gives-at (rec (c.in-Some-take.record.payload ++ c.in-Last.payload.now) c.in-Some-take.record.place) (left_behind-at c.args.self.now (Some c.in-Some-take.record) _ _ c.args.place file_len marks c.requires.goes_on some c.in-Last.is)
      (ap (λ payload. rec payload c.in-Some-take.record.place) c.in-Ok.ensures.ok)
      (left_behind-open _ None file_len marks c.requires.goes_on c.take-in-Last.ensures.after)
      (last_given c.in-Some-take.record.payload c.in-Last.payload.now c.in-Some-take.record.place c.args.place file_len marks),
  ap is_some c.requires.goes_on,
)

pub returns-in-Err : goal.returns-in-Err
returns-in-Err c =
    let some = sym c.take-in-Last.ensures.value ∙ c.in-Some-take.is in (
      put_back c.args.self.now c.in-Some-take.record _ some c.in-Err.ensures.err,
      λ file_len marks.
          ap splits_next (left_behind-at c.args.self.now (Some c.in-Some-take.record) _ _ c.args.place file_len marks c.requires.goes_on some c.in-Last.is)
          ∙ begun_splits c.in-Some-take.record file_len (last c.in-Last.payload.now c.args.place ∷ marks),
    )

pub returns-in-Fault : goal.returns-in-Fault
returns-in-Fault c = (
  λ file_len marks.
      Gives-at (gap c.in-Fault.why c.args.place) (left_behind-at c.args.self.now _ _ _ c.args.place file_len marks c.requires.goes_on refl c.in-Fault.is) refl
      (left_behind-open _ None file_len marks c.requires.goes_on refl)
      (fault_given c.args.self.now.unfinished c.in-Fault.why c.args.place file_len marks),
  ap is_some c.requires.goes_on,
)

pub returns-in-Cut : goal.returns-in-Cut
returns-in-Cut c = (
  λ file_len marks.
      Gives-at _ (left_behind-at c.args.self.now _ _ _ c.args.place file_len marks c.requires.goes_on refl c.in-Cut.is) c.cut_off.ensures.item
      (left_behind-ended _ _ file_len marks c.cut_off.ensures.given)
      (cut_given c.args.self.now.unfinished c.args.place file_len marks),
  ap is_some c.cut_off.ensures.given ∙ sym (ap is_end c.cut_off.ensures.item),
)

pub returns-in-Stale : goal.returns-in-Stale
returns-in-Stale c = (
  λ file_len marks.
      Gives-at _ (left_behind-at c.args.self.now _ _ _ c.args.place file_len marks c.requires.goes_on refl c.in-Stale.is) c.end.ensures.item
      (left_behind-ended _ _ file_len marks c.end.ensures.given)
      (stale_given c.args.self.now.unfinished c.args.place file_len marks),
  ap is_some c.end.ensures.given ∙ sym (ap is_end c.end.ensures.item),
)

pub returns-in-Unsupported : goal.returns-in-Unsupported
returns-in-Unsupported c = (
  λ file_len marks.
      Gives-at _ (left_behind-at c.args.self.now _ _ _ c.args.place file_len marks c.requires.goes_on refl c.in-Unsupported.is) c.end-in-Unsupported.ensures.item
      (left_behind-ended _ _ file_len marks c.end-in-Unsupported.ensures.given)
      (unsupported_given c.args.self.now.unfinished c.in-Unsupported.kind c.args.place file_len marks),
  ap is_some c.end-in-Unsupported.ensures.given ∙ sym (ap is_end c.end-in-Unsupported.ensures.item),
)
