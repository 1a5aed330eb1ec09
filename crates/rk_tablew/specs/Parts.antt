-- The parts of a table while it is written.
use Rattle.std.specs.Prelude.{◌≡◌, ℕ, ◌-◌, List, [], ◌∷◌, ◌++◌, length, flat_map, replicate, codes, Option, Some, None}
use Rattle.rk_bytes.specs.declared.model.block.Handle.{Handle}
use Rattle.rk_bytes.specs.Model.Numbers.{fixed_of, varint_of}
use Rattle.rk_bytes.specs.Model.InternalKey.{bytewise_name}
use Rattle.rk_bytes.specs.Model.TableFooter.{newer_magic}
use Rattle.rk_bytes.specs.Model.Writers.{KeyValue, stored, handle_bytes, joined_table, metaindex_block}
use Rattle.rk_block.specs.Building.{Building}
use Rattle.rk_tablew.specs.declared.properties.Sizes.{Sizes}

-- a block is put at the end, and this is its handle
pub record Puts (old block : List ℕ) (handle : Handle) (new : List ℕ) : Type 0 where
  pub at : handle ≡ record { offset = length old; size = length block }
  pub added : new ≡ old ++ stored block

-- a block that may be there
abbrev pub blocks_of : Option (List ℕ) → List (List ℕ)
blocks_of None = []
blocks_of (Some block) = block ∷ []

-- a block is put at the end, if there is one
abbrev pub PutsAny : List ℕ → Option (List ℕ) → Option Handle → List ℕ → Type 0
PutsAny old None None new = new ≡ old
PutsAny old (Some block) (Some handle) new = Puts old block handle new
PutsAny old _ _ new = ⊥

-- the kind of checksum of a footer, its handles and the zeros behind them
abbrev pub padded_handles : List ℕ → List ℕ
padded_handles handles = 1 ∷ handles ++ replicate (40 - length handles) 0

-- a footer with these handles
abbrev pub footer_with : List ℕ → List ℕ
footer_with handles = padded_handles handles ++ fixed_of 4 2 ++ fixed_of 8 newer_magic

-- the block with these entries more
abbrev pub with_entries : Building → List KeyValue → Building
with_entries building entries = record building { entries = building.entries ++ entries }

-- the properties that each table has, up to those of its family
abbrev pub family_entries : List ℕ → List ℕ → List KeyValue
family_entries family name =
    (codes "rocksdb.block.based.table.index.type", fixed_of 4 0) ∷ (codes "rocksdb.column.family.id", family) ∷ (codes "rocksdb.column.family.name", name) ∷ []

-- those after them
abbrev pub form_entries : List ℕ → List KeyValue
form_entries count =
    (codes "rocksdb.comparator", bytewise_name)
    ∷ (codes "rocksdb.index.key.is.user.key", varint_of 0)
    ∷ (codes "rocksdb.index.value.is.delta.encoded", varint_of 0)
    ∷ (codes "rocksdb.num.entries", count) ∷ []

-- all of them
abbrev pub plain_entries : ℕ → List ℕ → ℕ → List KeyValue
plain_entries family name count = family_entries (varint_of family) name ++ form_entries (varint_of count)

-- the two properties of sizes, where they are stated
abbrev pub size_entries : Option Sizes → List KeyValue
size_entries None = []
size_entries (Some sizes) = (codes "rocksdb.raw.key.size", varint_of sizes.keys) ∷ (codes "rocksdb.raw.value.size", varint_of sizes.values) ∷ []

-- the entry of the range deletions' block in the metaindex
abbrev pub range_handle_entries : Option Handle → List KeyValue
range_handle_entries None = []
range_handle_entries (Some ranges) = (codes "rocksdb.range_del", handle_bytes ranges) ∷ []

-- the entries of the metaindex
abbrev pub metaindex_entries : Handle → Option Handle → List KeyValue
metaindex_entries properties ranges = (codes "rocksdb.properties", handle_bytes properties) ∷ range_handle_entries ranges

-- a table whose data blocks are these bytes, with its other blocks and its footer behind them
pub record EndsWith (front : List ℕ) (ranges : Option (List ℕ)) (properties index table : List ℕ) : Type 0 where
  pub joined : (data_blocks : List (List ℕ)) → front ≡ flat_map stored data_blocks
      → table ≡ joined_table (data_blocks ++ blocks_of ranges ++ properties ∷ []) (metaindex_block data_blocks (blocks_of ranges) properties) index
