-- Internal keys: a user key, a sequence number and a kind (db/dbformat.h). Which kinds are refused is
-- this project's own rule.
use Rattle.std.specs.Prelude.{◌≡◌, ℕ, ◌+◌, ◌-◌, ◌*◌, ◌/◌, ◌%◌, ◌^◌, ◌&&◌, List, [], ◌∷◌, ◌++◌, length, take, drop, find, nat_lt, nat_le, ◌==◌, if◌then◌else◌, Option, option_map, ok_or, Result, Ok, Err, codes, refl}
use Rattle.std.specs.declared.cmp.Ordering.{Ordering}
use Rattle.std.specs.declared.cmp.Ordering.TheVariants.{Less, Greater}
use Rattle.std.specs.Ordering.{nat_cmp, ordering_then}
use Rattle.std.specs.Cmp.Lexicographic.{slice_cmp}
use Rattle.rk_bytes.specs.declared.model.key.Kind.{Kind}
use Rattle.rk_bytes.specs.declared.model.key.Kind.TheVariants.{Deletion, Value, Merge, SingleDeletion, RangeDeletion}
use Rattle.rk_bytes.specs.declared.model.key.KeyFault.{KeyFault}
use Rattle.rk_bytes.specs.declared.model.key.KeyFault.TheVariants.{Short, UnsupportedKind, UnknownKind}
use Rattle.rk_bytes.specs.Model.Numbers.{little_endian, fixed_of}

-- a kind's number
abbrev pub kind_number : Kind → ℕ
kind_number Deletion = 0
kind_number Value = 1
kind_number Merge = 2
kind_number SingleDeletion = 7
kind_number RangeDeletion = 15

-- the kinds that are supported, each once
abbrev pub all_kinds : List Kind
all_kinds = Deletion ∷ Value ∷ Merge ∷ SingleDeletion ∷ RangeDeletion ∷ []

-- the kind with this number
abbrev pub kind_of : ℕ → Option Kind
kind_of number = find (λ kind. kind_number kind == number) all_kinds

-- the greatest sequence number
abbrev pub top_sequence : ℕ
top_sequence = 2 ^ 56 - 1

-- the number after the user key
abbrev pub packed_of : ℕ → Kind → ℕ
packed_of sequence kind = sequence * 256 + kind_number kind

-- the internal key of a user key, a sequence number and a kind
unfoldable pub internal_key : List ℕ → ℕ → Kind → List ℕ
internal_key user sequence kind = user ++ fixed_of 8 (packed_of sequence kind)

-- the user key of an internal key, which has at least 8 bytes
abbrev pub user_key : List ℕ → List ℕ
user_key key = take (length key - 8) key

-- the number after the user key of an internal key
abbrev pub packed : List ℕ → ℕ
packed key = little_endian (drop (length key - 8) key)

-- the name of the comparator that orders user keys by their bytes
abbrev pub bytewise_name : List ℕ
bytewise_name = codes "leveldb.BytewiseComparator"

-- User keys rise by their bytes. Of one user key the numbers fall.
abbrev pub key_cmp : List ℕ → List ℕ → Ordering
key_cmp a b = ordering_then (slice_cmp nat_cmp (user_key a) (user_key b)) (nat_cmp (packed b) (packed a))

-- what an internal key is made of
pub record KeyParts : Type 0 where
  pub user : List ℕ
  pub sequence : ℕ
  pub kind : Kind

-- the fault of a number that no kind has: 16 to 31 are those of kinds that aren't supported
abbrev pub kind_fault : ℕ → KeyFault
kind_fault number = if nat_le 16 number && nat_le number 31 then UnsupportedKind number else UnknownKind number

-- the parts of an internal key, or the first fault
abbrev pub key_parts : List ℕ → Result KeyParts KeyFault
key_parts key =
    let number = packed key % 256 in
    if nat_lt (length key) 8 then Err Short
    else ok_or (option_map (λ kind. record { user = user_key key; sequence = packed key / 256; kind = kind }) (kind_of number)) (kind_fault number)

a_put : internal_key (codes "a") 1 Value ≡ 0x61 ∷ 0x01 ∷ 0x01 ∷ 0 ∷ 0 ∷ 0 ∷ 0 ∷ 0 ∷ 0 ∷ []
unfolding internal_key
a_put = refl

parts_of_a_put : key_parts (0x61 ∷ 0x01 ∷ 0x01 ∷ 0 ∷ 0 ∷ 0 ∷ 0 ∷ 0 ∷ 0 ∷ []) ≡ Ok (record { user = codes "a"; sequence = 1; kind = Value })
parts_of_a_put = refl

of_an_unsupported_kind : key_parts (0x10 ∷ 0 ∷ 0 ∷ 0 ∷ 0 ∷ 0 ∷ 0 ∷ 0 ∷ []) ≡ Err (UnsupportedKind 16)
of_an_unsupported_kind = refl

of_an_unknown_kind : key_parts (0x03 ∷ 0 ∷ 0 ∷ 0 ∷ 0 ∷ 0 ∷ 0 ∷ 0 ∷ []) ≡ Err (UnknownKind 3)
of_an_unknown_kind = refl

of_seven_bytes : key_parts (0 ∷ 0 ∷ 0 ∷ 0 ∷ 0 ∷ 0 ∷ 0 ∷ []) ≡ Err Short
of_seven_bytes = refl

newer_first : key_cmp (internal_key (codes "a") 2 Deletion) (internal_key (codes "a") 1 Value) ≡ Less
unfolding internal_key
newer_first = refl

longer_later : key_cmp (internal_key (codes "ab") 2 Value) (internal_key (codes "a") 1 Value) ≡ Greater
unfolding internal_key
longer_later = refl
