-- The words of the commands.
use Rattle.std.proofs.Common.{◌≡◌, ℕ, ◌<◌, ◌^◌, Bool, true, false, cond, List, [], ◌∷◌, drop, Option, Some, None, MatchOption, refl, sym, ap, ◌∙◌}
use Rattle.std.specs.Prelude.{if◌then◌else◌, nat_le, ◌&&◌, codes, decimal, find, bytes_eq, option_map, unwrap_or}
use Rattle.std.specs.Option.{option_and_then}
use Rattle.std.proofs.lemmas.Slice.Eq.{bytes_eq-Decides}
use Rattle.rk_bytes.specs.declared.model.wal.Mode.TheVariants.{TolerateTail, Absolute, PointInTime, SkipAny}
use Rattle.rk_bytes.specs.declared.model.command.How.{How}
use Rattle.rk_bytes.specs.declared.model.command.How.TheVariants.{Normal, Best}
use Rattle.rk_bytes.specs.declared.model.command.SstPart.{SstPart}
use Rattle.rk_bytes.specs.declared.model.command.SstPart.TheVariants.{Check, Scan, Properties}
use Rattle.rk_bytes.specs.Model.Grammar.{KeyWord, how_word, Command, scan, get, families, manifest_dump, dump_wal, check, repair, sst, drill, usual, family_option, how_option, from_option, to_option, option_at, key_word_of, hex_of, number_of, alone, part_command, sst_part_of, scan_of, get_of, dump_wal_of, check_of, sst_of, drill_of, commands, command_of}
use Rattle.rk_bytes.proofs.Callers.CommandLemmas.{number_spelled, number_read}
use Rattle.rk_ldb.specs.Built.{manifest_dump_of, form_of}

-- ---- the first word

-- there is no word
pub no_words : (words : List (List ℕ)) → words ≡ [] → command_of words ≡ None
unfolding command_of
no_words words none = ap command_of none

-- the words of one command don't agree
differ : (name verb : List ℕ) → (verb ≡ name → ⊥) → bytes_eq name verb ≡ false
differ name verb other = by (bytes_eq name verb) refl
  where
    by : (same : Bool) → bytes_eq name verb ≡ same → bytes_eq name verb ≡ false
    by true is = absurd (other (sym ((bytes_eq-Decides name verb).0 is)))
    by false is = is

-- what another word spells is passed over
passed : {A : Type 0} (spell : A → List ℕ) (word : List ℕ) (one : A) (others : List A) → (word ≡ spell one → ⊥) → find (λ a. bytes_eq (spell a) word) (one ∷ others) ≡ find (λ a. bytes_eq (spell a) word) others
passed spell word one others other = ap (λ same. cond same (Some one) (find (λ a. bytes_eq (spell a) word) others)) (differ (spell one) word other)

-- a command's name
abbrev named : List ℕ × (List (List ℕ) → Option Command) → List ℕ
named command = command.0

-- the first word is no command's
pub other_words : (words arguments : List (List ℕ)) (verb : List ℕ) → words ≡ verb ∷ arguments → (verb ≡ codes "scan" → ⊥) → (verb ≡ codes "get" → ⊥) → (verb ≡ codes "families" → ⊥) → (verb ≡ codes "manifest_dump" → ⊥)
    → (verb ≡ codes "dump_wal" → ⊥) → (verb ≡ codes "check" → ⊥) → (verb ≡ codes "repair" → ⊥) → (verb ≡ codes "sst" → ⊥) → (verb ≡ codes "drill" → ⊥) → command_of words ≡ None
unfolding command_of
other_words words arguments verb split not_scan not_get not_families not_manifest not_log not_check not_repair not_sst not_drill =
    ap command_of split
    ∙ ap (λ (found : Option (List ℕ × (List (List ℕ) → Option Command))). option_and_then (λ (named : List ℕ × (List (List ℕ) → Option Command)). named.1 arguments) found)
    (passed named verb (codes "scan", scan_of) (drop 1 commands) not_scan ∙ passed named verb (codes "get", get_of) (drop 2 commands) not_get ∙ passed named verb (codes "families", alone families) (drop 3 commands) not_families ∙ passed named verb (codes "manifest_dump", λ words. option_map manifest_dump (hex_of words)) (drop 4 commands) not_manifest ∙ passed named verb (codes "dump_wal", dump_wal_of) (drop 5 commands) not_log ∙ passed named verb (codes "check", check_of) (drop 6 commands) not_check ∙ passed named verb (codes "repair", alone repair) (drop 7 commands) not_repair
    ∙ passed named verb (codes "sst", sst_of) (drop 8 commands) not_sst ∙ passed named verb (codes "drill", drill_of) (drop 9 commands) not_drill)

pub scan_words : (words arguments : List (List ℕ)) → words ≡ codes "scan" ∷ arguments → command_of words ≡ scan_of arguments
unfolding command_of
scan_words words arguments split = ap command_of split

pub get_words : (words arguments : List (List ℕ)) → words ≡ codes "get" ∷ arguments → command_of words ≡ get_of arguments
unfolding command_of
get_words words arguments split = ap command_of split

pub families_words : (words arguments : List (List ℕ)) → words ≡ codes "families" ∷ arguments → command_of words ≡ alone families arguments
unfolding command_of
families_words words arguments split = ap command_of split

pub manifest_words : (words arguments : List (List ℕ)) → words ≡ codes "manifest_dump" ∷ arguments → command_of words ≡ manifest_dump_of arguments
unfolding command_of
manifest_words words arguments split = ap command_of split

pub log_words : (words arguments : List (List ℕ)) → words ≡ codes "dump_wal" ∷ arguments → command_of words ≡ dump_wal_of arguments
unfolding command_of
log_words words arguments split = ap command_of split

pub check_words : (words arguments : List (List ℕ)) → words ≡ codes "check" ∷ arguments → command_of words ≡ check_of arguments
unfolding command_of
check_words words arguments split = ap command_of split

pub repair_words : (words arguments : List (List ℕ)) → words ≡ codes "repair" ∷ arguments → command_of words ≡ alone repair arguments
unfolding command_of
repair_words words arguments split = ap command_of split

pub sst_words : (words arguments : List (List ℕ)) → words ≡ codes "sst" ∷ arguments → command_of words ≡ sst_of arguments
unfolding command_of
sst_words words arguments split = ap command_of split

pub drill_words : (words arguments : List (List ℕ)) → words ≡ codes "drill" ∷ arguments → command_of words ≡ drill_of arguments
unfolding command_of
drill_words words arguments split = ap command_of split

-- the word says nothing of how the database is opened
pub no_how : (word : List ℕ) → (word ≡ codes "--best-efforts" → ⊥) → (word ≡ codes "--mode=0" → ⊥) → (word ≡ codes "--mode=1" → ⊥) → (word ≡ codes "--mode=2" → ⊥) → (word ≡ codes "--mode=3" → ⊥) → how_option word ≡ None
no_how word best zero one two three = passed how_word word Best (Normal TolerateTail ∷ Normal Absolute ∷ Normal PointInTime ∷ Normal SkipAny ∷ []) best ∙ passed how_word word (Normal TolerateTail) (Normal Absolute ∷ Normal PointInTime ∷ Normal SkipAny ∷ []) zero ∙ passed how_word word (Normal Absolute) (Normal PointInTime ∷ Normal SkipAny ∷ []) one ∙ passed how_word word (Normal PointInTime) (Normal SkipAny ∷ []) two ∙ passed how_word word (Normal SkipAny) ([]) three

-- ---- an option that may stand first

module _ {A : Type 0} (read : List ℕ → Option A) where
  pub nothing_left : (words : List (List ℕ)) → words ≡ [] → option_at read words ≡ (None, words)
  nothing_left words none = ap (option_at read) none ∙ (λ i. (None, sym none i))

  pub option_there : (words rest : List (List ℕ)) (word : List ℕ) (value : A) → words ≡ word ∷ rest → read word ≡ Some value → option_at read words ≡ (Some value, rest)
  option_there words rest word value split is = ap (option_at read) split ∙ ap (λ (found : Option A). elim found [ Some value ↦ (Some value, rest) | None ↦ (None, word ∷ rest) ]) is

  pub option_absent : (words rest : List (List ℕ)) (word : List ℕ) → words ≡ word ∷ rest → read word ≡ None → option_at read words ≡ (None, words)
  option_absent words rest word split is =
      ap (option_at read) split ∙ ap (λ (found : Option A). elim found [ Some value ↦ (Some value, rest) | None ↦ (None, word ∷ rest) ]) is ∙ (λ i. (None, sym split i))

-- ---- the words after the first

-- what the words after `scan` say, option by option
pub scan_command : (words behind_family behind_how behind_from behind_to : List (List ℕ)) (family : Option (List ℕ)) (how : How) (from to : Option KeyWord) (hex : Option Bool)
    → family ≡ (option_at family_option words).0 → behind_family ≡ (option_at family_option words).1
    → how ≡ unwrap_or (option_at how_option behind_family).0 usual → behind_how ≡ (option_at how_option behind_family).1
    → from ≡ (option_at from_option behind_how).0 → behind_from ≡ (option_at from_option behind_how).1
    → to ≡ (option_at to_option behind_from).0 → behind_to ≡ (option_at to_option behind_from).1 → hex ≡ hex_of behind_to → option_map (scan family how from to) hex ≡ scan_of words
unfolding scan_of
scan_command words behind_family behind_how behind_from behind_to family how from to hex family_is first how_is second from_is third to_is fourth hex_is =
    let how_at = how_is ∙ ap (λ w. unwrap_or (option_at how_option w).0 usual) first in
    let second_at = second ∙ ap (λ w. (option_at how_option w).1) first in
    let from_at = from_is ∙ ap (λ w. (option_at from_option w).0) second_at in
    let third_at = third ∙ ap (λ w. (option_at from_option w).1) second_at in
    let to_at = to_is ∙ ap (λ w. (option_at to_option w).0) third_at in
    let hex_at = hex_is ∙ ap hex_of (fourth ∙ ap (λ w. (option_at to_option w).1) third_at) in
    λ i. option_map (scan (family_is i) (how_at i) (from_at i) (to_at i)) (hex_at i)

-- what the words after `get` say
pub get_command : (words options behind_family behind_how : List (List ℕ)) (word : List ℕ) (key : Option KeyWord) (family : Option (List ℕ)) (how : How) (hex : Option Bool)
    → words ≡ word ∷ options → key ≡ key_word_of word → family ≡ (option_at family_option options).0 → behind_family ≡ (option_at family_option options).1
    → how ≡ unwrap_or (option_at how_option behind_family).0 usual → behind_how ≡ (option_at how_option behind_family).1 → hex ≡ hex_of behind_how
    → option_and_then (λ key. option_map (get key family how) hex) key ≡ get_of words
unfolding get_of
get_command words options behind_family behind_how word key family how hex split key_is family_is first how_is second hex_is =
    let how_at = how_is ∙ ap (λ w. unwrap_or (option_at how_option w).0 usual) first in
    let hex_at = hex_is ∙ ap hex_of (second ∙ ap (λ w. (option_at how_option w).1) first) in
    (λ i. option_and_then (λ key. option_map (get key (family_is i) (how_at i)) (hex_at i)) (key_is i)) ∙ ap get_of (sym split)

pub no_key : (words : List (List ℕ)) → words ≡ [] → None ≡ get_of words
unfolding get_of
no_key words none = ap get_of (sym none)

pub bad_key : (words options : List (List ℕ)) (word : List ℕ) → words ≡ word ∷ options → None ≡ key_word_of word → None ≡ get_of words
unfolding get_of
bad_key words options word split is =
    let family = option_at family_option options in
    let how = option_at how_option family.1 in
    ap (λ (key : Option KeyWord). option_and_then (λ key. option_map (get key family.0 (unwrap_or how.0 usual)) (hex_of how.1)) key) is ∙ ap get_of (sym split)

-- what the words after `check` say
pub check_command : (words rest : List (List ℕ)) (how : How) → how ≡ unwrap_or (option_at how_option words).0 usual → rest ≡ (option_at how_option words).1 → alone (check how) rest ≡ check_of words
unfolding check_of
check_command words rest how how_is rest_is = λ i. alone (check (how_is i)) (rest_is i)

-- what the words after `dump_wal` say, where these are the number and the choice of the form
pub log_command : (arguments options : List (List ℕ)) (number : List ℕ) (n : Option ℕ) (hex : Option Bool) → arguments ≡ number ∷ options
    → number_of number ≡ n → hex_of options ≡ hex → dump_wal_of arguments ≡ option_and_then (λ n. option_map (dump_wal n) hex) n
unfolding dump_wal_of
log_command arguments options number n hex split count form = ap dump_wal_of split ∙ (λ i. option_and_then (λ n. option_map (dump_wal n) (form i)) (count i))

pub no_number : (arguments : List (List ℕ)) → arguments ≡ [] → dump_wal_of arguments ≡ None
unfolding dump_wal_of
no_number arguments none = ap dump_wal_of none

-- a number that is read of a word, or none where it spells none
pub number_of-read : (word : List ℕ) (read : Option ℕ) → MatchOption read ((n : ℕ) → n < 2 ^ 64 → word ≡ decimal n → ⊥) (λ n. (n < 2 ^ 64) × (word ≡ decimal n)) → read ≡ number_of word
number_of-read word (Some n) is = sym (ap number_of is.1 ∙ number_read n is.0)
number_of-read word None none = by (number_of word) (λ n e. let s = number_spelled word n e in none n s.0 s.1)
  where
    by : (found : Option ℕ) → ((n : ℕ) → found ≡ Some n → ⊥) → None ≡ found
    by None other = refl
    by (Some n) other = absurd (other n refl)

-- what is asked of a table, by the word for it and the choice of the form
by_form : (n : ℕ) (words : List (List ℕ)) (part : SstPart) → part_command n words part ≡ option_map (sst n part) (form_of part words)
by_form n [] Check = refl
by_form n (word ∷ words) Check = refl
by_form n words Scan = refl
by_form n words Properties = refl

-- what the words after `sst` say, where these are the number, what is asked and the choice of the form
pub sst_command : (arguments options : List (List ℕ)) (number asked : List ℕ) (n : Option ℕ) (part : Option SstPart) → arguments ≡ number ∷ asked ∷ options → number_of number ≡ n → sst_part_of asked ≡ part
    → sst_of arguments ≡ option_and_then (λ n. option_and_then (λ part. option_map (sst n part) (form_of part options)) part) n
unfolding sst_of
sst_command arguments options number asked n part split count ask = ap sst_of split ∙ (λ i. option_and_then (λ n. option_and_then (part_command n options) (ask i)) (count i)) ∙ by n part
  where
    by : (n : Option ℕ) (part : Option SstPart) → option_and_then (λ n. option_and_then (part_command n options) part) n ≡ option_and_then (λ n. option_and_then (λ part. option_map (sst n part) (form_of part options)) part) n
    by None part = refl
    by (Some n) None = refl
    by (Some n) (Some part) = by_form n options part

pub no_table : (arguments : List (List ℕ)) → arguments ≡ [] → sst_of arguments ≡ None
unfolding sst_of
no_table arguments none = ap sst_of none

pub number_alone : (arguments rest : List (List ℕ)) (number : List ℕ) → arguments ≡ number ∷ rest → rest ≡ [] → sst_of arguments ≡ None
unfolding sst_of
number_alone arguments rest number split none = ap sst_of (split ∙ ap (λ rest. number ∷ rest) none)

-- what the words after `drill` say
pub no_drill : (arguments : List (List ℕ)) → arguments ≡ [] → drill_of arguments ≡ None
unfolding drill_of
no_drill arguments none = ap drill_of none

pub drill_command : (arguments rest : List (List ℕ)) (number : List ℕ) (n : Option ℕ) → arguments ≡ number ∷ rest → number_of number ≡ n
    → drill_of arguments ≡ option_and_then (λ n. if nat_le 1 n && nat_le n 100000 then alone (drill n) rest else None) n
unfolding drill_of
drill_command arguments rest number n split count = ap drill_of split ∙ ap (λ (n : Option ℕ). option_and_then (λ n. if nat_le 1 n && nat_le n 100000 then alone (drill n) rest else None) n) count
