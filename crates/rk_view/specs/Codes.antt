-- What a state is stored as, by which its values are told apart.
use Rattle.std.specs.Prelude.{◌≡◌, ℕ, List, ◌==◌, if◌then◌else◌, Option, refl}
use Rattle.std.specs.Coded.{Coded, code_by, coded×, coded_ℕ, coded_list, coded_option}
use Rattle.std.specs.FinMap as map
use Rattle.rk_bytes.specs.declared.model.key.Kind.{Kind}
use Rattle.rk_bytes.specs.declared.model.key.Kind.TheVariants.{Deletion, Value, Merge, SingleDeletion, RangeDeletion}
use Rattle.rk_bytes.specs.declared.model.key.Record.{Record}
use Rattle.rk_bytes.specs.declared.model.view.Cut.{Cut}
use Rattle.rk_bytes.specs.declared.model.view.Tomb.{Tomb}
use Rattle.rk_bytes.specs.declared.model.view.FamilyLine.{FamilyLine}
use Rattle.rk_bytes.specs.Model.InternalKey.{kind_number}
use Rattle.rk_bytes.specs.Model.Records.{Slot, RecordMap}
use Rattle.rk_bytes.specs.Model.KeyView.{State}

abbrev pub coded_bytes : Coded (List ℕ)
coded_bytes = coded_list coded_ℕ

-- the kind with a number
abbrev pub kind_with : ℕ → Kind
kind_with n = if n == 0 then Deletion else if n == 1 then Value else if n == 2 then Merge else if n == 7 then SingleDeletion else RangeDeletion

abbrev pub kind_back : (kind : Kind) → kind_with (kind_number kind) ≡ kind
kind_back Deletion = refl
kind_back Value = refl
kind_back Merge = refl
kind_back SingleDeletion = refl
kind_back RangeDeletion = refl

abbrev pub coded_kind : Coded Kind
coded_kind = code_by ℕ coded_ℕ kind_number kind_with kind_back

abbrev pub coded_record : Coded Record
coded_record =
    code_by (ℕ × (List ℕ × (ℕ × (Kind × List ℕ)))) (coded× coded_ℕ (coded× coded_bytes (coded× coded_ℕ (coded× coded_kind coded_bytes))))
    (λ r. (r.family, (r.key, (r.sequence, (r.kind, r.value))))) (λ p. record { family = p.0; key = p.1.0; sequence = p.1.1.0; kind = p.1.1.1.0; value = p.1.1.1.1 }) (λ _. refl)

abbrev coded_slot : Coded Slot
coded_slot =
    code_by (ℕ × (List ℕ × (ℕ × List ℕ))) (coded× coded_ℕ (coded× coded_bytes (coded× coded_ℕ coded_bytes)))
    (λ s. (s.family, (s.user, (s.packed, s.end)))) (λ p. record { family = p.0; user = p.1.0; packed = p.1.1.0; end = p.1.1.1 }) (λ _. refl)

abbrev coded_records : Coded RecordMap
coded_records = map.code coded_slot coded_record

abbrev coded_cut : Coded Cut
coded_cut = code_by (List ℕ × List ℕ) (coded× coded_bytes coded_bytes) (λ c. (c.smallest, c.largest)) (λ p. record { smallest = p.0; largest = p.1 }) (λ _. refl)

abbrev coded_tomb : Coded Tomb
coded_tomb =
    code_by (ℕ × (List ℕ × (List ℕ × (ℕ × Option Cut)))) (coded× coded_ℕ (coded× coded_bytes (coded× coded_bytes (coded× coded_ℕ (coded_option coded_cut)))))
    (λ t. (t.family, (t.start, (t.end, (t.sequence, t.cut))))) (λ p. record { family = p.0; start = p.1.0; end = p.1.1.0; sequence = p.1.1.1.0; cut = p.1.1.1.1 }) (λ _. refl)

abbrev coded_line : Coded FamilyLine
coded_line =
    code_by (ℕ × (List ℕ × (ℕ × ℕ))) (coded× coded_ℕ (coded× coded_bytes (coded× coded_ℕ coded_ℕ)))
    (λ f. (f.id, (f.name, (f.log, f.files)))) (λ p. record { id = p.0; name = p.1.0; log = p.1.1.0; files = p.1.1.1 }) (λ _. refl)

abbrev pub coded_state : Coded State
coded_state =
    code_by (List FamilyLine × (RecordMap × List Tomb)) (coded× (coded_list coded_line) (coded× coded_records (coded_list coded_tomb)))
    (λ s. (s.families, (s.records, s.tombs))) (λ p. record { families = p.0; records = p.1.0; tombs = p.1.1 }) (λ _. refl)
