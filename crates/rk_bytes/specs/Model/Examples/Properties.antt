-- The properties of tables, and what they refuse.
use Rattle.std.specs.Prelude.{◌≡◌, ℕ, List, [], ◌∷◌, ◌++◌, length, map, flat_map, Option, Some, None, Ok, Err, codes, refl}
use Rattle.std.specs.Fmt.{digits}
use Rattle.rk_bytes.specs.declared.model.block.Property.{Property}
use Rattle.rk_bytes.specs.declared.model.table.TableWhy.TheVariants.{BadProperty}
use Rattle.rk_bytes.specs.declared.model.table.TableWhat.TheVariants.{Comparator, IndexType, External}
use Rattle.rk_bytes.specs.Model.BlockEntries.{block_entries, entries_after}
use Rattle.rk_bytes.specs.Model.TableStatus.{TableFault, damaged, unsupported, property_list, properties_at, family_id, family_of, family_name_of}

-- the properties
comparator : List ℕ → Property
comparator value = record { name = codes "rocksdb.comparator"; value = value }

index_type_is : List ℕ → Property
index_type_is value = record { name = codes "rocksdb.block.based.table.index.type"; value = value }

external : List ℕ → Property
external value = record { name = codes "rocksdb.external_sst_file.version"; value = value }

family_id_is : List ℕ → Property
family_id_is value = record { name = codes "rocksdb.column.family.id"; value = value }

family_name_is : List ℕ → Property
family_name_is value = record { name = codes "rocksdb.column.family.name"; value = value }

stated : List ℕ → Property
stated value = record { name = codes "rocksdb.num.entries"; value = value }

-- the fault of the properties in a block at 9, if any
refused : List Property → Option TableFault
unfolding property_list block_entries entries_after
refused properties =
    let entries = flat_map (λ property. 0 ∷ length property.name ∷ length property.value ∷ property.name ++ property.value) properties in
    elim (properties_at (λ handle. Ok (entries ++ 0 ∷ 0 ∷ 0 ∷ 0 ∷ 1 ∷ 0 ∷ 0 ∷ 0 ∷ [])) (record { offset = 9; size = 99 })) [
      | Ok read ↦ None
      | Err fault ↦ Some fault
    ]

-- absent, the bytewise one, another and an empty one
of_comparators : map refused ([] ∷ (comparator (codes "leveldb.BytewiseComparator") ∷ []) ∷ (comparator (codes "rocksdb.ReverseBytewiseComparator") ∷ []) ∷ (comparator [] ∷ []) ∷ [])
    ≡ None ∷ None ∷ Some (unsupported Comparator) ∷ Some (unsupported Comparator) ∷ []
unfolding refused comparator
of_comparators = refl

of_index_types : map (λ value. refused (index_type_is value ∷ [])) ((0 ∷ 0 ∷ 0 ∷ 0 ∷ []) ∷ (2 ∷ 1 ∷ 0 ∷ 0 ∷ []) ∷ (0 ∷ 0 ∷ 0 ∷ []) ∷ [])
    ≡ None ∷ Some (unsupported (IndexType 258)) ∷ Some (damaged BadProperty 9) ∷ []
unfolding refused index_type_is
of_index_types = refl

-- whatever its value is
written_outside : map (λ value. refused (external value ∷ [])) ([] ∷ (2 ∷ 0 ∷ 0 ∷ 0 ∷ []) ∷ []) ≡ Some (unsupported External) ∷ Some (unsupported External) ∷ []
unfolding refused external
written_outside = refl

-- A form comes first, and then the comparator, the type of the index, and that a table was written outside.
in_their_order : map refused (
    (external [] ∷ index_type_is (1 ∷ 0 ∷ 0 ∷ 0 ∷ []) ∷ comparator [] ∷ stated [] ∷ []) ∷ (external [] ∷ index_type_is (1 ∷ 0 ∷ 0 ∷ 0 ∷ []) ∷ comparator [] ∷ [])
    ∷ (external [] ∷ index_type_is (1 ∷ 0 ∷ 0 ∷ 0 ∷ []) ∷ []) ∷ [])
    ≡ Some (damaged BadProperty 9) ∷ Some (unsupported Comparator) ∷ Some (unsupported (IndexType 1)) ∷ []
unfolding refused comparator index_type_is external stated
in_their_order = refl

-- 7 in two spellings, the id that stands for none, the greatest one and one above it, 7 with a byte after it, and no byte
of_family_ids : map (λ value. family_id (family_id_is value ∷ [])) (
    (7 ∷ []) ∷ (0x87 ∷ 0x80 ∷ 0x80 ∷ 0x80 ∷ 0x80 ∷ 0x80 ∷ 0 ∷ []) ∷ (0xFF ∷ 0xFF ∷ 0xFF ∷ 0xFF ∷ 7 ∷ []) ∷ (0xFF ∷ 0xFF ∷ 0xFF ∷ 0xFF ∷ 0xF ∷ [])
    ∷ (0x80 ∷ 0x80 ∷ 0x80 ∷ 0x80 ∷ 0x10 ∷ []) ∷ (7 ∷ 0 ∷ []) ∷ [] ∷ [])
    ≡ Some 7 ∷ Some 7 ∷ Some 2147483647 ∷ Some 4294967295 ∷ None ∷ None ∷ None ∷ []
unfolding family_id_is
of_family_ids = refl

of_no_family_id : refused (family_id_is (7 ∷ 0 ∷ []) ∷ []) ≡ Some (damaged BadProperty 9)
unfolding refused family_id_is
of_no_family_id = refl

of_no_family : family_of (family_id_is (0xFF ∷ 0xFF ∷ 0xFF ∷ 0xFF ∷ 7 ∷ []) ∷ []) ≡ 0
unfolding family_id_is
of_no_family = refl

of_family_names : map family_name_of ([] ∷ (family_id_is (7 ∷ []) ∷ []) ∷ (family_id_is (0xFF ∷ 0xFF ∷ 0xFF ∷ 0xFF ∷ 7 ∷ []) ∷ []) ∷ (family_name_is (codes "x") ∷ []) ∷ (family_name_is [] ∷ []) ∷ [])
    ≡ codes "default" ∷ codes "family-7" ∷ codes "default" ∷ codes "x" ∷ [] ∷ []
unfolding digits family_id_is family_name_is
of_family_names = refl

-- the first of two
of_two_names : family_name_of (family_name_is (codes "x") ∷ family_name_is (codes "y") ∷ []) ≡ codes "x"
unfolding family_name_is
of_two_names = refl
