-- The words of a command, after the folder that it looks at. The grammar is this project's own rule; the
-- commands take their names from RocksDB's administration tool `ldb`.
use Rattle.std.specs.Prelude.{◌≡◌, ◌⊎◌, ℕ, ◌+◌, ◌-◌, ◌%◌, ◌^◌, ◌<◌, ◌≤◌, ◌==◌, nat_eq, nat_lt, nat_le, Bool, true, false, ◌&&◌, List, [], ◌∷◌, ◌++◌, length, map, drop, find, replicate, if◌then◌else◌, Option, Some, None, option_map, unwrap_or, IfSome, Ok, Err, bytes_eq, codes, decimal, refl}
use Rattle.std.specs.Fmt.{digits}
use Rattle.std.specs.List.{starts_with, list_all, slice_split}
use Rattle.std.specs.Option.{option_and_then}
use Rattle.std.specs.Str.Parse.{digits_value}
use Rattle.hex.specs.Hex.{is_hex_digit, decode_of, decode_pairs}
use Rattle.rk_bytes.specs.declared.model.wal.Mode.{Mode}
use Rattle.rk_bytes.specs.declared.model.wal.Mode.TheVariants.{TolerateTail, Absolute, PointInTime, SkipAny}
use Rattle.rk_bytes.specs.declared.model.command.How.{How}
use Rattle.rk_bytes.specs.declared.model.command.How.TheVariants.{Normal, Best}
use Rattle.rk_bytes.specs.declared.model.command.SstPart.{SstPart}
use Rattle.rk_bytes.specs.declared.model.command.SstPart.TheVariants.{Check, Scan, Properties}

-- A key is spelled by its text, or by its hexadecimal digits after `0x`.
pub data KeyWord : Type 0 where
  text_key : List ℕ → KeyWord
  hex_key : List ℕ → KeyWord

-- What is asked for. A scan has the family, how the database is opened, the key that it begins at and
-- the one that it ends before. The last part of a command that has one says whether bytes are shown in
-- hexadecimal.
pub data Command : Type 0 where
  scan : Option (List ℕ) → How → Option KeyWord → Option KeyWord → Bool → Command
  get : KeyWord → Option (List ℕ) → How → Bool → Command
  families : Command
  manifest_dump : Bool → Command
  dump_wal : ℕ → Bool → Command
  check : How → Command
  repair : Command
  sst : ℕ → SstPart → Bool → Command
  drill : ℕ → Command

-- the modes, in the order of their numbers
abbrev pub all_modes : List Mode
all_modes = TolerateTail ∷ Absolute ∷ PointInTime ∷ SkipAny ∷ []

-- the number of a mode, which RocksDB's option `wal_recovery_mode` has too
abbrev pub mode_number : Mode → ℕ
mode_number TolerateTail = 0
mode_number Absolute = 1
mode_number PointInTime = 2
mode_number SkipAny = 3

-- how a database is opened where no word says it
abbrev pub usual : How
usual = Normal PointInTime

-- the bytes of the key that is spelled so
abbrev pub key_bytes : KeyWord → List ℕ
key_bytes (text_key text) = text
key_bytes (hex_key digits) = elim (decode_of digits) [ Ok bytes ↦ bytes | Err why ↦ [] ]

-- the word that spells a key by itself
abbrev pub key_word : KeyWord → List ℕ
key_word (text_key text) = text
key_word (hex_key digits) = codes "0x" ++ digits

-- the word that names the family
abbrev pub family_word : List ℕ → List ℕ
family_word name = codes "--family=" ++ name

-- the word that says how the database is opened
abbrev pub how_word : How → List ℕ
how_word (Normal mode) = codes "--mode=" ++ (48 + mode_number mode) ∷ []
how_word Best = codes "--best-efforts"

-- the word for the key that a scan begins at
abbrev pub from_word : KeyWord → List ℕ
from_word key = codes "--from=" ++ key_word key

-- the word for the key that a scan ends before
abbrev pub to_word : KeyWord → List ℕ
to_word key = codes "--to=" ++ key_word key

-- the word that asks for bytes in hexadecimal
abbrev pub hex_word : List ℕ
hex_word = codes "--hex"

-- the word that says what is asked of a table
abbrev pub part_word : SstPart → List ℕ
part_word Check = codes "check"
part_word Scan = codes "scan"
part_word Properties = codes "properties"

-- an option's word, or none where it isn't given
abbrev pub option_words : {A : Type 0} → (A → List ℕ) → Option A → List (List ℕ)
option_words word None = []
option_words word (Some value) = word value ∷ []

-- the last words of a command, none or the one that asks for hexadecimal
abbrev pub hex_words : Bool → List (List ℕ)
hex_words true = hex_word ∷ []
hex_words false = []

-- a family's name isn't empty
abbrev pub IsFamilyName : List ℕ → Type 0
IsFamilyName name = 0 < length name

-- bytes are spelled by an even number of hexadecimal digits, of either case
abbrev pub spell_bytes : List ℕ → Bool
spell_bytes digits = length digits % 2 == 0 && list_all is_hex_digit digits

-- A text that begins with `0x` is no key by itself.
abbrev pub IsKey : KeyWord → Type 0
IsKey (text_key text) = starts_with nat_eq text (codes "0x") ≡ false
IsKey (hex_key digits) = spell_bytes digits ≡ true

-- The words say how the database is opened: by one word, or by none in the usual way.
abbrev pub SpellsHow : List (List ℕ) → How → Type 0
SpellsHow words how = (words ≡ how_word how ∷ []) ⊎ (words ≡ []) × (how ≡ usual)

-- The words are a spelling of the command: its name, what it is about, and its options in this order.
abbrev pub SpellsCommand : List (List ℕ) → Command → Type 0
SpellsCommand words (scan family how from to hex) = IfSome family IsFamilyName × IfSome from IsKey × IfSome to IsKey × (how_words : List (List ℕ)) × SpellsHow how_words how
    × (words ≡ codes "scan" ∷ option_words family_word family ++ (how_words ++ (option_words from_word from ++ (option_words to_word to ++ hex_words hex))))
SpellsCommand words (get key family how hex) = IsKey key × IfSome family IsFamilyName × (how_words : List (List ℕ)) × SpellsHow how_words how
    × (words ≡ codes "get" ∷ key_word key ∷ option_words family_word family ++ (how_words ++ hex_words hex))
SpellsCommand words families = words ≡ codes "families" ∷ []
SpellsCommand words (manifest_dump hex) = words ≡ codes "manifest_dump" ∷ hex_words hex
SpellsCommand words (dump_wal n hex) = (n < 2 ^ 64) × (words ≡ codes "dump_wal" ∷ decimal n ∷ hex_words hex)
SpellsCommand words (check how) = (how_words : List (List ℕ)) × SpellsHow how_words how × (words ≡ codes "check" ∷ how_words)
SpellsCommand words repair = words ≡ codes "repair" ∷ []
SpellsCommand words (sst n Check hex) = (n < 2 ^ 64) × (hex ≡ false) × (words ≡ codes "sst" ∷ decimal n ∷ part_word Check ∷ [])
SpellsCommand words (sst n part hex) = (n < 2 ^ 64) × (words ≡ codes "sst" ∷ decimal n ∷ part_word part ∷ hex_words hex)
SpellsCommand words (drill n) = (1 ≤ n) × (n ≤ 100000) × (words ≡ codes "drill" ∷ decimal n ∷ [])

-- what follows this front in the word
abbrev pub after : List ℕ → List ℕ → Option (List ℕ)
after front word = if starts_with nat_eq word front then Some (drop (length front) word) else None

-- the number below 2 ^ 64 that the word is the decimal spelling of
abbrev pub number_of : List ℕ → Option ℕ
number_of word = let n = digits_value 10 word in if nat_lt n (2 ^ 64) && bytes_eq (decimal n) word then Some n else None

-- the key that the word spells
abbrev pub key_word_of : List ℕ → Option KeyWord
key_word_of word = elim (after (codes "0x") word) [ Some digits ↦ if spell_bytes digits then Some (hex_key digits) else None | None ↦ Some (text_key word) ]

-- the family's name, where the word is that option
abbrev pub family_option : List ℕ → Option (List ℕ)
family_option word = option_and_then (λ name. if nat_lt 0 (length name) then Some name else None) (after (codes "--family=") word)

-- how the database is opened, where the word says it
abbrev pub how_option : List ℕ → Option How
how_option word = find (λ how. bytes_eq (how_word how) word) (Best ∷ Normal TolerateTail ∷ Normal Absolute ∷ Normal PointInTime ∷ Normal SkipAny ∷ [])

-- the key that a scan begins at, where the word is that option
abbrev pub from_option : List ℕ → Option KeyWord
from_option word = option_and_then key_word_of (after (codes "--from=") word)

-- the key that a scan ends before, where the word is that option
abbrev pub to_option : List ℕ → Option KeyWord
to_option word = option_and_then key_word_of (after (codes "--to=") word)

-- what the word asks of a table
abbrev pub sst_part_of : List ℕ → Option SstPart
sst_part_of word = find (λ part. bytes_eq (part_word part) word) (Check ∷ Scan ∷ Properties ∷ [])

-- what the option says whose word may stand first, and the words after it
abbrev pub option_at : {A : Type 0} → (List ℕ → Option A) → List (List ℕ) → Option A × List (List ℕ)
option_at read [] = (None, [])
option_at read (word ∷ words) = elim (read word) [ Some value ↦ (Some value, words) | None ↦ (None, word ∷ words) ]

-- whether the last words, which may be none, ask for hexadecimal
abbrev pub hex_of : List (List ℕ) → Option Bool
hex_of [] = Some false
hex_of (word ∷ []) = if bytes_eq word hex_word then Some true else None
hex_of _ = None

-- the command, where no word is left
abbrev pub alone : Command → List (List ℕ) → Option Command
alone command [] = Some command
alone command _ = None

-- the command of the words after `scan`
unfoldable pub scan_of : List (List ℕ) → Option Command
scan_of words =
    let family = option_at family_option words in let how = option_at how_option family.1 in
    let from = option_at from_option how.1 in let to = option_at to_option from.1 in
    option_map (scan family.0 (unwrap_or how.0 usual) from.0 to.0) (hex_of to.1)

-- the command of the words after `get`, the first of which is the key whatever it is
unfoldable pub get_of : List (List ℕ) → Option Command
get_of [] = None
get_of (word ∷ words) =
    let family = option_at family_option words in let how = option_at how_option family.1 in
    option_and_then (λ key. option_map (get key family.0 (unwrap_or how.0 usual)) (hex_of how.1)) (key_word_of word)

-- the command of the words after `dump_wal`
unfoldable pub dump_wal_of : List (List ℕ) → Option Command
dump_wal_of [] = None
dump_wal_of (number ∷ words) = option_and_then (λ n. option_map (dump_wal n) (hex_of words)) (number_of number)

-- the command of the words after `check`
unfoldable pub check_of : List (List ℕ) → Option Command
check_of words = let how = option_at how_option words in alone (check (unwrap_or how.0 usual)) how.1

-- What is asked of a table, with the words that are left. A check takes none.
abbrev pub part_command : ℕ → List (List ℕ) → SstPart → Option Command
part_command n words Check = alone (sst n Check false) words
part_command n words part = option_map (sst n part) (hex_of words)

-- the command of the words after `sst`
unfoldable pub sst_of : List (List ℕ) → Option Command
sst_of (number ∷ part ∷ words) = option_and_then (λ n. option_and_then (part_command n words) (sst_part_of part)) (number_of number)
sst_of _ = None

-- the command of the words after `drill`, whose number is from 1 to 100,000
unfoldable pub drill_of : List (List ℕ) → Option Command
drill_of [] = None
drill_of (number ∷ words) = option_and_then (λ n. if nat_le 1 n && nat_le n 100000 then alone (drill n) words else None) (number_of number)

-- The names of the commands, each with what the words after it spell.
abbrev pub commands : List (List ℕ × (List (List ℕ) → Option Command))
commands =
    (codes "scan", scan_of) ∷ (codes "get", get_of) ∷ (codes "families", alone families)
    ∷ (codes "manifest_dump", λ words. option_map manifest_dump (hex_of words)) ∷ (codes "dump_wal", dump_wal_of)
    ∷ (codes "check", check_of) ∷ (codes "repair", alone repair) ∷ (codes "sst", sst_of) ∷ (codes "drill", drill_of) ∷ []

-- the command that the words spell
unfoldable pub command_of : List (List ℕ) → Option Command
command_of [] = None
command_of (name ∷ words) = option_and_then (λ named. named.1 words) (find (λ named. bytes_eq named.0 name) commands)

-- the words of a text in which single spaces stand between them
spoken : List ℕ → List (List ℕ)
spoken text = slice_split (λ b. b == 32) text

-- what some texts spell
spelled : List (List ℕ) → List (Option Command)
unfolding spoken command_of scan_of get_of dump_wal_of check_of sst_of drill_of digits
spelled texts = map (λ text. command_of (spoken text)) texts

-- A number has one spelling, and is below 2 ^ 64.
of_numbers : spelled (codes "dump_wal 03" ∷ codes "dump_wal 0" ∷ codes "dump_wal 18446744073709551615" ∷ codes "dump_wal 18446744073709551616" ∷ codes "dump_wal +3" ∷ codes "dump_wal " ∷ [])
    ≡ None ∷ Some (dump_wal 0 false) ∷ Some (dump_wal (2 ^ 64 - 1) false) ∷ None ∷ None ∷ None ∷ []
unfolding spelled
of_numbers = refl

of_the_drills : spelled (codes "drill 0" ∷ codes "drill 1" ∷ codes "drill 100000" ∷ codes "drill 100001" ∷ []) ≡ None ∷ Some (drill 1) ∷ Some (drill 100000) ∷ None ∷ []
unfolding spelled
of_the_drills = refl

of_a_whole_scan : spelled (codes "scan --family=f --mode=0 --from=0x61 --to=b --hex" ∷ codes "scan" ∷ [])
    ≡ Some (scan (Some (codes "f")) (Normal TolerateTail) (Some (hex_key (codes "61"))) (Some (text_key (codes "b"))) true) ∷ Some (scan None usual None None false) ∷ []
unfolding spelled
of_a_whole_scan = refl

-- Options stand in their order, and once. A mode is one digit up to 3, and a family's name isn't empty.
refused_options : spelled (codes "scan --hex --from=a" ∷ codes "scan --from=a --family=f" ∷ codes "scan --hex --hex" ∷ codes "scan --mode=1 --best-efforts" ∷ codes "check --mode=4"
    ∷ codes "check --mode=03" ∷ codes "check --family=f" ∷ codes "scan --family=" ∷ codes "scan --from=0x6" ∷ codes "get 0xZZ" ∷ codes "get" ∷ codes "repair --hex" ∷ [])
    ≡ replicate 12 None
unfolding spelled
refused_options = refl

-- The word after `get` is always the key.
of_keys : spelled (codes "get --hex" ∷ codes "get  --hex" ∷ codes "get 0X61" ∷ codes "get 0x" ∷ codes "get 0xAf --best-efforts" ∷ [])
    ≡ Some (get (text_key (codes "--hex")) None usual false) ∷ Some (get (text_key []) None usual true) ∷ Some (get (text_key (codes "0X61")) None usual false)
    ∷ Some (get (hex_key []) None usual false) ∷ Some (get (hex_key (codes "Af")) None Best false) ∷ []
unfolding spelled
of_keys = refl

-- with nothing after them, the bounds are the empty key
of_empty_bounds : spelled (codes "scan --from= --to=" ∷ []) ≡ Some (scan None usual (Some (text_key [])) (Some (text_key [])) false) ∷ []
unfolding spelled
of_empty_bounds = refl

bytes_of_keys : map key_bytes (hex_key (codes "00Af") ∷ text_key (codes "0X61") ∷ []) ≡ (0 ∷ 0xAF ∷ []) ∷ codes "0X61" ∷ []
unfolding decode_pairs
bytes_of_keys = refl

-- `check` of a table takes no option.
of_tables : spelled (codes "sst 4 check" ∷ codes "sst 4 scan --hex" ∷ codes "sst 4 properties" ∷ codes "sst 4 check --hex" ∷ codes "sst 4" ∷ codes "sst scan" ∷ [])
    ≡ Some (sst 4 Check false) ∷ Some (sst 4 Scan true) ∷ Some (sst 4 Properties false) ∷ None ∷ None ∷ None ∷ []
unfolding spelled
of_tables = refl

without_options : spelled (codes "families" ∷ codes "manifest_dump --hex" ∷ codes "check --best-efforts" ∷ codes "check --mode=1" ∷ codes "repair" ∷ codes "Scan" ∷ codes "" ∷ [])
    ≡ Some families ∷ Some (manifest_dump true) ∷ Some (check Best) ∷ Some (check (Normal Absolute)) ∷ Some repair ∷ None ∷ None ∷ []
unfolding spelled
without_options = refl
