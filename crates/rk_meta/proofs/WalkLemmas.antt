-- What an entry is depends on its key and its value alone.
use Rattle.std.specs.Prelude.{option_map, ok_or}
use Rattle.std.proofs.Common.{◌≡◌, ◌⊎◌, ℕ, List, Option, Some, None, Result, Ok, Err, refl, sym, ap, ◌∙◌, inl, inr}
use Rattle.rk_bytes.specs.declared.model.block.Handle.{Handle}
use Rattle.rk_bytes.specs.declared.model.block.IndexEntry.{IndexEntry}
use Rattle.rk_bytes.specs.declared.model.block.IndexFault.{IndexFault}
use Rattle.rk_bytes.specs.declared.model.block.IndexFault.TheVariants.{BadHandle}
use Rattle.rk_bytes.specs.declared.model.key.KeyFault.{KeyFault}
use Rattle.rk_bytes.specs.Model.Numbers.{◌>>=◌}
use Rattle.rk_bytes.specs.Model.InternalKey.{KeyParts, key_parts}
use Rattle.rk_bytes.specs.Model.BlockEntries.{Entry, handle_at, whole, with_value, index_entry}
use Rattle.rk_bytes.specs.Model.TableStatus.{range_of}
use Rattle.rk_meta.specs.Walk.{range_in, whole_entry, entry_with}

-- what isn't one of two faults
pub unless : {A F : Type 0} (r : Result A F) (x : A) (why : F) → (Ok x ≡ r) ⊎ (◌≡◌ {A = Result A F} (Ok x) (Err why)) → r ≡ Ok x
unless r x why (inl is) = sym is
unless r x why (inr not) = absurd cc

pub range_in-entry : (entry : Entry (List ℕ)) (key value : List ℕ) → entry.key ≡ key → entry.value ≡ value → range_in entry ≡ range_in (entry_with key value)
range_in-entry entry key value key_is value_is = by (key_parts entry.key) ∙ (λ i. range_in (entry_with (key_is i) (value_is i)))
  where
    by : (r : Result KeyParts KeyFault) → range_of entry r ≡ range_of (entry_with entry.key entry.value) r
    by (Ok parts) = refl
    by (Err why) = refl

pub whole_entry-handle : (entry : Entry (List ℕ)) (key value : List ℕ) (handle : Option Handle) → entry.key ≡ key → entry.value ≡ value → handle ≡ whole (handle_at value)
    → whole_entry entry ≡ ok_or (option_map (λ handle. record { separator = key; block = handle }) handle) BadHandle
whole_entry-handle entry key value handle key_is value_is handle_is =
    ap by_handle (ap (λ value. whole (handle_at value)) value_is ∙ sym handle_is) ∙ by handle
  where
    by_handle : Option Handle → Result IndexEntry IndexFault
    by_handle handle = ok_or (option_map (with_value entry) handle) BadHandle >>= λ one. Ok (index_entry one)

    by : (handle : Option Handle) → by_handle handle ≡ ok_or (option_map (λ handle. record { separator = key; block = handle }) handle) BadHandle
    by (Some handle) = ap (λ key. Ok (record { separator = key; block = handle })) key_is
    by None = refl
