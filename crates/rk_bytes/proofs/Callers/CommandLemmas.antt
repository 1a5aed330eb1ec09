-- The command of a list of words is the one that they spell.
use Rattle.std.proofs.Common.{◌≡◌, ◌⊎◌, inl, inr, ℕ, ◌<◌, ◌^◌, ◌&&◌, ◌↔◌, Bool, true, false, cond, ltb, leb, List, [], ◌∷◌, ◌++◌, length, drop, Option, Some, None, unwrap_or, refl, sym, subst, ap, ◌∙◌, arith}
use Rattle.std.specs.Prelude.{IfSome, find, nat_eq, option_map, bytes_eq, codes, decimal}
use Rattle.std.specs.List.{starts_with}
use Rattle.std.specs.Option.{option_and_then}
use Rattle.std.specs.Str.Parse.{digits_value}
use Rattle.std.proofs.lemmas.Bool.{and_parts, and_from, cond-true, ltb-true, lt-ltb, leb-true, le-leb}
use Rattle.std.proofs.lemmas.Bool.Decides.{Decides-eqb}
use Rattle.std.proofs.lemmas.Option.{cond_some, none-some, option_and_then_some}
use Rattle.std.proofs.lemmas.List.{append-nil}
use Rattle.std.proofs.lemmas.Slice.Eq.{bytes_eq-Decides, starts_is}
use Rattle.std.proofs.lemmas.Fmt.{decimal_is_IsNumeral}
use Rattle.rk_bytes.specs.declared.model.wal.Mode.TheVariants.{TolerateTail, Absolute, PointInTime, SkipAny}
use Rattle.rk_bytes.specs.declared.model.command.How.{How}
use Rattle.rk_bytes.specs.declared.model.command.How.TheVariants.{Normal, Best}
use Rattle.rk_bytes.specs.declared.model.command.SstPart.{SstPart}
use Rattle.rk_bytes.specs.declared.model.command.SstPart.TheVariants.{Check, Scan, Properties}
use Rattle.rk_bytes.specs.Model.Grammar.{KeyWord, text_key, hex_key, Command, scan, get, families, manifest_dump, dump_wal, check, repair, sst, drill, usual, key_word, family_word, how_word, from_word, to_word, hex_word, part_word, option_words, hex_words, IsFamilyName, spell_bytes, IsKey, SpellsHow, SpellsCommand, after, number_of, key_word_of, family_option, how_option, from_option, to_option, sst_part_of, option_at, hex_of, alone, scan_of, get_of, dump_wal_of, check_of, part_command, sst_of, drill_of, commands, command_of}

-- ---- a part of a command, and the word that spells it

some_is : {A : Type 0} {x y : A} → Some x ≡ Some y → x ≡ y
some_is {x = x} e = ap (λ o. unwrap_or o x) e

after_spelled : (front word rest : List ℕ) → after front word ≡ Some rest → word ≡ front ++ rest
after_spelled front word rest e =
    let parts = cond_some (starts_with nat_eq word front) (drop (length front) word) rest e in
    (starts_is Decides-eqb word front (starts_with nat_eq word front) refl).0 parts.0 ∙ ap (λ more. front ++ more) parts.1

-- a word spells the number that it is read as
pub number_spelled : (word : List ℕ) (n : ℕ) → number_of word ≡ Some n → (n < 2 ^ 64) × (word ≡ decimal n)
number_spelled word n is =
    let m = digits_value 10 word in
    let chosen = cond_some (ltb m (2 ^ 64) && bytes_eq (decimal m) word) m n is in
    let tests = and_parts (ltb m (2 ^ 64)) (bytes_eq (decimal m) word) chosen.0 in
    let same : m ≡ n = chosen.1 in
    let written : word ≡ decimal m = sym ((bytes_eq-Decides (decimal m) word).0 tests.1) in
    (subst (λ k. k < 2 ^ 64) same (ltb-true m (2 ^ 64) tests.0), written ∙ ap decimal same)

pub number_read : (n : ℕ) → n < 2 ^ 64 → number_of (decimal n) ≡ Some n
number_read n fits =
    let value : digits_value 10 (decimal n) ≡ n = (decimal_is_IsNumeral n fits).1 in
    subst (λ m. cond (ltb m (2 ^ 64) && bytes_eq (decimal m) (decimal n)) (Some m) None ≡ Some n) (sym value)
    (cond-true _ _ _ (and_from _ _ (lt-ltb n (2 ^ 64) fits) ((bytes_eq-Decides (decimal n) (decimal n)).1 refl)))

-- a key, where the test of its front is known
key_tested : (word : List ℕ) (key : KeyWord) (hex : Bool) → starts_with nat_eq word (codes "0x") ≡ hex
    → elim (cond hex (Some (drop 2 word)) None) [ Some digits ↦ cond (spell_bytes digits) (Some (hex_key digits)) None | None ↦ Some (text_key word) ] ≡ Some key
    → IsKey key × (word ≡ key_word key)
key_tested word key true begins e =
    let parts = cond_some (spell_bytes (drop 2 word)) (hex_key (drop 2 word)) key e in
    subst (λ k. IsKey k × (word ≡ key_word k)) parts.1 (parts.0, (starts_is Decides-eqb word (codes "0x") (starts_with nat_eq word (codes "0x")) refl).0 begins)
key_tested word key false begins e = subst (λ k. IsKey k × (word ≡ key_word k)) (some_is e) (begins, refl)

pub key_spelled : (word : List ℕ) (key : KeyWord) → key_word_of word ≡ Some key → IsKey key × (word ≡ key_word key)
key_spelled word key e = key_tested word key (starts_with nat_eq word (codes "0x")) refl e

pub key_read : (key : KeyWord) → IsKey key → key_word_of (key_word key) ≡ Some key
key_read (text_key text) is = ap (λ b. elim (cond b (Some (drop 2 text)) None) [ Some digits ↦ cond (spell_bytes digits) (Some (hex_key digits)) None | None ↦ Some (text_key text) ]) is
key_read (hex_key digits) is = cond-true _ _ _ is

name_spelled : (word name : List ℕ) → family_option word ≡ Some name → IsFamilyName name × (word ≡ family_word name)
name_spelled word name e = option_and_then_some (λ x. cond (ltb 0 (length x)) (Some x) None) (after (codes "--family=") word) name e (λ text found is.
    let parts = cond_some (ltb 0 (length text)) text name is in
    (subst IsFamilyName parts.1 (ltb-true 0 (length text) parts.0), after_spelled (codes "--family=") word text found ∙ ap family_word parts.1))

name_read : (name : List ℕ) → IsFamilyName name → family_option (family_word name) ≡ Some name
name_read name is = cond-true _ _ _ (lt-ltb 0 (length name) is)

from_spelled : (word : List ℕ) (key : KeyWord) → from_option word ≡ Some key → IsKey key × (word ≡ from_word key)
from_spelled word key e = option_and_then_some key_word_of (after (codes "--from=") word) key e (λ text found is.
    let parts = key_spelled text key is in
    (parts.0, after_spelled (codes "--from=") word text found ∙ ap (λ more. codes "--from=" ++ more) parts.1))

to_spelled : (word : List ℕ) (key : KeyWord) → to_option word ≡ Some key → IsKey key × (word ≡ to_word key)
to_spelled word key e = option_and_then_some key_word_of (after (codes "--to=") word) key e (λ text found is.
    let parts = key_spelled text key is in
    (parts.0, after_spelled (codes "--to=") word text found ∙ ap (λ more. codes "--to=" ++ more) parts.1))

found_word : {A : Type 0} (spell : A → List ℕ) (word : List ℕ) (one : A) (same : Bool) (rest : Option A) (value : A) → bytes_eq (spell one) word ≡ same
    → (rest ≡ Some value → word ≡ spell value) → cond same (Some one) rest ≡ Some value → word ≡ spell value
found_word spell word one true rest value is more e = sym ((bytes_eq-Decides (spell one) word).0 is) ∙ ap spell (some_is e)
found_word spell word one false rest value is more e = more e

-- what is found among some values is spelled by the word
word_found : {A : Type 0} (spell : A → List ℕ) (word : List ℕ) (all : List A) (value : A) → find (λ one. bytes_eq (spell one) word) all ≡ Some value → word ≡ spell value
word_found spell word [] value e = absurd (none-some value e)
word_found spell word (one ∷ all) value e =
    found_word spell word one (bytes_eq (spell one) word) (find (λ other. bytes_eq (spell other) word) all) value refl (word_found spell word all value) e

pub how_spelled : (word : List ℕ) (how : How) → how_option word ≡ Some how → Unit {0} × (word ≡ how_word how)
how_spelled word how e = (tt, word_found how_word word (Best ∷ Normal TolerateTail ∷ Normal Absolute ∷ Normal PointInTime ∷ Normal SkipAny ∷ []) how e)

pub how_read : (how : How) → how_option (how_word how) ≡ Some how
how_read (Normal TolerateTail) = refl
how_read (Normal Absolute) = refl
how_read (Normal PointInTime) = refl
how_read (Normal SkipAny) = refl
how_read Best = refl

part_spelled : (word : List ℕ) (part : SstPart) → sst_part_of word ≡ Some part → word ≡ part_word part
part_spelled word part e = word_found part_word word (Check ∷ Scan ∷ Properties ∷ []) part e

pub hex_spelled : (words : List (List ℕ)) (hex : Bool) → hex_of words ≡ Some hex → words ≡ hex_words hex
hex_spelled [] hex e = subst (λ b. [] ≡ hex_words b) (some_is e) refl
hex_spelled (word ∷ []) hex e =
    let parts = cond_some (bytes_eq word hex_word) true hex e in
    subst (λ b. word ∷ [] ≡ hex_words b) parts.1 (ap (λ w. w ∷ []) ((bytes_eq-Decides word hex_word).0 parts.0))
hex_spelled (word ∷ next ∷ words) hex e = absurd (none-some hex e)

pub hex_read : (hex : Bool) → hex_of (hex_words hex) ≡ Some hex
hex_read true = refl
hex_read false = refl

alone_spelled : (one : Command) (words : List (List ℕ)) (command : Command) → alone one words ≡ Some command → (words ≡ []) × (one ≡ command)
alone_spelled one [] command e = (refl, some_is e)
alone_spelled one (word ∷ words) command e = absurd (none-some command e)

map_spelled : {A : Type 0} (f : A → Command) (o : Option A) (command : Command) → option_map f o ≡ Some command → (value : A) × (o ≡ Some value) × (f value ≡ command)
map_spelled f None command e = absurd (none-some command e)
map_spelled f (Some value) command e = (value, refl, some_is e)

guarded_some : (b : Bool) (o : Option Command) (command : Command) → cond b o None ≡ Some command → (b ≡ true) × (o ≡ Some command)
guarded_some true o command e = (refl, e)
guarded_some false o command e = absurd (none-some command e)

-- ---- options

option_tested : {A : Type 0} (word : A → List ℕ) (Fine : A → Type 0) (first : List ℕ) (words : List (List ℕ)) (o : Option A) → ((value : A) → o ≡ Some value → Fine value × (first ≡ word value))
    → let at : Option A × List (List ℕ) = elim o [ Some value ↦ (Some value, words) | None ↦ (None, first ∷ words) ] in IfSome at.0 Fine × (first ∷ words ≡ option_words word at.0 ++ at.1)
option_tested word Fine first words None reads = (tt, refl)
option_tested word Fine first words (Some value) reads = let is = reads value refl in (is.0, ap (λ w. w ∷ words) is.1)

option_spelled : {A : Type 0} (read : List ℕ → Option A) (word : A → List ℕ) (Fine : A → Type 0) → ((w : List ℕ) (value : A) → read w ≡ Some value → Fine value × (w ≡ word value))
    → (words : List (List ℕ)) → IfSome (option_at read words).0 Fine × (words ≡ option_words word (option_at read words).0 ++ (option_at read words).1)
option_spelled read word Fine reads [] = (tt, refl)
option_spelled read word Fine reads (first ∷ words) = option_tested word Fine first words (read first) (reads first)

-- the first of the words, if there is one, isn't this option's
Unread : {A : Type 0} → (List ℕ → Option A) → List (List ℕ) → Type 0
Unread read [] = Unit {0}
Unread read (word ∷ words) = read word ≡ None

option_read : {A : Type 0} (read : List ℕ → Option A) (word : A → List ℕ) (o : Option A) (rest : List (List ℕ)) → IfSome o (λ value. read (word value) ≡ Some value) → Unread read rest
    → option_at read (option_words word o ++ rest) ≡ (o, rest)
unfolding Unread
option_read {A = A} read word (Some value) rest is unread = ap {B = Option A × List (List ℕ)} (λ o. elim o [ Some one ↦ (Some one, rest) | None ↦ (None, word value ∷ rest) ]) is
option_read read word None [] is unread = refl
option_read {A = A} read word None (other ∷ rest) is unread = ap {B = Option A × List (List ℕ)} (λ o. elim o [ Some one ↦ (Some one, rest) | None ↦ (None, other ∷ rest) ]) unread

unread_past : {A B : Type 0} (read : List ℕ → Option A) (word : B → List ℕ) → ((value : B) → read (word value) ≡ None) → (o : Option B) (rest : List (List ℕ)) → Unread read rest → Unread read (option_words word o ++ rest)
unfolding Unread
unread_past read word others None rest unread = unread
unread_past read word others (Some value) rest unread = others value

unread_hex : {A : Type 0} (read : List ℕ → Option A) → read hex_word ≡ None → (hex : Bool) → Unread read (hex_words hex)
unfolding Unread
unread_hex read other true = other
unread_hex read other false = tt

none_of_how : (how : How) → family_option (how_word how) ≡ None
none_of_how (Normal mode) = refl
none_of_how Best = refl

-- what every value meets of which it holds
each_read : {A : Type 0} (P Q : A → Type 0) → ((value : A) → P value → Q value) → (o : Option A) → IfSome o P → IfSome o Q
each_read P Q meets None is = tt
each_read P Q meets (Some value) is = meets value is

all_read : {A : Type 0} (Q : A → Type 0) → ((value : A) → Q value) → (o : Option A) → IfSome o Q
all_read Q meets None = tt
all_read Q meets (Some value) = meets value

spells_how : (o : Option How) → SpellsHow (option_words how_word o) (unwrap_or o usual)
spells_how None = inr (refl, refl)
spells_how (Some how) = inl refl

-- words that say how the database is opened are those of an option
how_words_option : (words : List (List ℕ)) (how : How) → SpellsHow words how → (o : Option How) × (words ≡ option_words how_word o) × (unwrap_or o usual ≡ how)
how_words_option words how (inl one) = (Some how, one, refl)
how_words_option words how (inr none) = (None, none.0, sym none.1)

-- ---- the commands

scan_spelled : (words : List (List ℕ)) (command : Command) → scan_of words ≡ Some command → SpellsCommand (codes "scan" ∷ words) command
unfolding scan_of
scan_spelled words command e =
    let family = option_at family_option words in let how = option_at how_option family.1 in
    let from = option_at from_option how.1 in let to = option_at to_option from.1 in
    let family_is = option_spelled family_option family_word IsFamilyName name_spelled words in
    let how_is = option_spelled how_option how_word (λ how. Unit {0}) how_spelled family.1 in
    let from_is = option_spelled from_option from_word IsKey from_spelled how.1 in
    let to_is = option_spelled to_option to_word IsKey to_spelled from.1 in
    let hex = map_spelled (scan family.0 (unwrap_or how.0 usual) from.0 to.0) (hex_of to.1) command e in
    let last = to_is.1 ∙ ap (λ r. option_words to_word to.0 ++ r) (hex_spelled to.1 hex.0 hex.1) in
    let more = how_is.1 ∙ ap (λ r. option_words how_word how.0 ++ r) (from_is.1 ∙ ap (λ r. option_words from_word from.0 ++ r) last) in
    let whole = family_is.1 ∙ ap (λ r. option_words family_word family.0 ++ r) more in
    subst (SpellsCommand (codes "scan" ∷ words)) hex.2
    (family_is.0, from_is.0, to_is.0, option_words how_word how.0, spells_how how.0, ap (λ r. codes "scan" ∷ r) whole)

get_spelled : (words : List (List ℕ)) (command : Command) → get_of words ≡ Some command → SpellsCommand (codes "get" ∷ words) command
unfolding get_of
get_spelled [] command e = absurd (none-some command e)
get_spelled (word ∷ words) command e =
    let family = option_at family_option words in let how = option_at how_option family.1 in
    let family_is = option_spelled family_option family_word IsFamilyName name_spelled words in
    let how_is = option_spelled how_option how_word (λ how. Unit {0}) how_spelled family.1 in
    option_and_then_some (λ key. option_map (get key family.0 (unwrap_or how.0 usual)) (hex_of how.1)) (key_word_of word) command e (λ key found is.
    let key_is = key_spelled word key found in
    let hex = map_spelled (get key family.0 (unwrap_or how.0 usual)) (hex_of how.1) command is in
    let more = how_is.1 ∙ ap (λ r. option_words how_word how.0 ++ r) (hex_spelled how.1 hex.0 hex.1) in
    let whole = family_is.1 ∙ ap (λ r. option_words family_word family.0 ++ r) more in
    subst (SpellsCommand (codes "get" ∷ word ∷ words)) hex.2
    (key_is.0, family_is.0, option_words how_word how.0, spells_how how.0, λ i. codes "get" ∷ key_is.1 i ∷ whole i))

dump_wal_spelled : (words : List (List ℕ)) (command : Command) → dump_wal_of words ≡ Some command → SpellsCommand (codes "dump_wal" ∷ words) command
unfolding dump_wal_of
dump_wal_spelled [] command e = absurd (none-some command e)
dump_wal_spelled (number ∷ words) command e = option_and_then_some (λ n. option_map (dump_wal n) (hex_of words)) (number_of number) command e (λ n found is.
    let digits = number_spelled number n found in
    let hex = map_spelled (dump_wal n) (hex_of words) command is in
    let last = hex_spelled words hex.0 hex.1 in
    subst (SpellsCommand (codes "dump_wal" ∷ number ∷ words)) hex.2 (digits.0, λ i. codes "dump_wal" ∷ digits.1 i ∷ last i))

manifest_dump_spelled : (words : List (List ℕ)) (command : Command) → option_map manifest_dump (hex_of words) ≡ Some command → SpellsCommand (codes "manifest_dump" ∷ words) command
manifest_dump_spelled words command e =
    let hex = map_spelled manifest_dump (hex_of words) command e in
    subst (SpellsCommand (codes "manifest_dump" ∷ words)) hex.2 (ap (λ r. codes "manifest_dump" ∷ r) (hex_spelled words hex.0 hex.1))

check_spelled : (words : List (List ℕ)) (command : Command) → check_of words ≡ Some command → SpellsCommand (codes "check" ∷ words) command
unfolding check_of
check_spelled words command e =
    let how = option_at how_option words in
    let how_is = option_spelled how_option how_word (λ how. Unit {0}) how_spelled words in
    let none = alone_spelled (check (unwrap_or how.0 usual)) how.1 command e in
    let whole = how_is.1 ∙ (ap (λ r. option_words how_word how.0 ++ r) none.0 ∙ append-nil (option_words how_word how.0)) in
    subst (SpellsCommand (codes "check" ∷ words)) none.1 (option_words how_word how.0, spells_how how.0, ap (λ r. codes "check" ∷ r) whole)

part_command_spelled : (n : ℕ) (number part_is : List ℕ) (words : List (List ℕ)) (part : SstPart) (command : Command) → n < 2 ^ 64 → number ≡ decimal n → part_is ≡ part_word part
    → part_command n words part ≡ Some command → SpellsCommand (codes "sst" ∷ number ∷ part_is ∷ words) command
part_command_spelled n number part_is words Check command fits digits name e =
    let none = alone_spelled (sst n Check false) words command e in
    subst (SpellsCommand (codes "sst" ∷ number ∷ part_is ∷ words)) none.1 (fits, refl, λ i. codes "sst" ∷ digits i ∷ name i ∷ none.0 i)
part_command_spelled n number part_is words Scan command fits digits name e =
    let hex = map_spelled (sst n Scan) (hex_of words) command e in
    let last = hex_spelled words hex.0 hex.1 in
    subst (SpellsCommand (codes "sst" ∷ number ∷ part_is ∷ words)) hex.2 (fits, λ i. codes "sst" ∷ digits i ∷ name i ∷ last i)
part_command_spelled n number part_is words Properties command fits digits name e =
    let hex = map_spelled (sst n Properties) (hex_of words) command e in
    let last = hex_spelled words hex.0 hex.1 in
    subst (SpellsCommand (codes "sst" ∷ number ∷ part_is ∷ words)) hex.2 (fits, λ i. codes "sst" ∷ digits i ∷ name i ∷ last i)

sst_spelled : (words : List (List ℕ)) (command : Command) → sst_of words ≡ Some command → SpellsCommand (codes "sst" ∷ words) command
unfolding sst_of
sst_spelled [] command e = absurd (none-some command e)
sst_spelled (number ∷ []) command e = absurd (none-some command e)
sst_spelled (number ∷ part ∷ words) command e =
    option_and_then_some (λ n. option_and_then (part_command n words) (sst_part_of part)) (number_of number) command e (λ n found is.
    let digits = number_spelled number n found in
    option_and_then_some (part_command n words) (sst_part_of part) command is (λ one named spelled.
    part_command_spelled n number part words one command digits.0 digits.1 (part_spelled part one named) spelled))

drill_spelled : (words : List (List ℕ)) (command : Command) → drill_of words ≡ Some command → SpellsCommand (codes "drill" ∷ words) command
unfolding drill_of
drill_spelled [] command e = absurd (none-some command e)
drill_spelled (number ∷ words) command e =
    option_and_then_some (λ n. cond (leb 1 n && leb n 100000) (alone (drill n) words) None) (number_of number) command e (λ n found is.
    let digits = number_spelled number n found in
    let parts = guarded_some (leb 1 n && leb n 100000) (alone (drill n) words) command is in
    let bounds = and_parts (leb 1 n) (leb n 100000) parts.0 in
    let none = alone_spelled (drill n) words command parts.1 in
    subst (SpellsCommand (codes "drill" ∷ number ∷ words)) none.1
    (leb-true 1 n bounds.0, leb-true n 100000 bounds.1, λ i. codes "drill" ∷ digits.1 i ∷ none.0 i))

alone_command : (name : List ℕ) (one : Command) (words : List (List ℕ)) (command : Command) → SpellsCommand (name ∷ []) one → alone one words ≡ Some command → SpellsCommand (name ∷ words) command
alone_command name one words command spells e =
    let none = alone_spelled one words command e in
    subst (SpellsCommand (name ∷ words)) none.1 (subst (λ r. SpellsCommand (name ∷ r) one) (sym none.0) spells)

-- one of the names is this one, and what comes with it gives the command
Named : List (List ℕ × (List (List ℕ) → Option Command)) → List ℕ → List (List ℕ) → Command → Type 0
Named [] name words command = ⊥
Named (one ∷ more) name words command = (name ≡ one.0) × (one.1 words ≡ Some command) ⊎ Named more name words command

named_tested : (one : List ℕ × (List (List ℕ) → Option Command)) (more : List (List ℕ × (List (List ℕ) → Option Command))) (name : List ℕ) (words : List (List ℕ)) (command : Command) (same : Bool)
    → bytes_eq one.0 name ≡ same → (option_and_then (λ named. named.1 words) (find (λ named. bytes_eq named.0 name) more) ≡ Some command → Named more name words command)
    → option_and_then (λ named. named.1 words) (cond same (Some one) (find (λ named. bytes_eq named.0 name) more)) ≡ Some command → Named (one ∷ more) name words command
unfolding Named
named_tested one more name words command true is others e = inl (sym ((bytes_eq-Decides one.0 name).0 is), e)
named_tested one more name words command false is others e = inr (others e)

named : (all : List (List ℕ × (List (List ℕ) → Option Command))) (name : List ℕ) (words : List (List ℕ)) (command : Command)
    → option_and_then (λ named. named.1 words) (find (λ named. bytes_eq named.0 name) all) ≡ Some command → Named all name words command
unfolding Named
named [] name words command e = none-some command e
named (one ∷ more) name words command e = named_tested one more name words command (bytes_eq one.0 name) refl (named more name words command) e

by_name : (name : List ℕ) (words : List (List ℕ)) (command : Command) → Named commands name words command → SpellsCommand (name ∷ words) command
unfolding Named
by_name name words command (inl one) = subst (λ n. SpellsCommand (n ∷ words) command) (sym one.0) (scan_spelled words command one.1)
by_name name words command (inr (inl one)) = subst (λ n. SpellsCommand (n ∷ words) command) (sym one.0) (get_spelled words command one.1)
by_name name words command (inr (inr (inl one))) = subst (λ n. SpellsCommand (n ∷ words) command) (sym one.0) (alone_command (codes "families") families words command refl one.1)
by_name name words command (inr (inr (inr (inl one)))) = subst (λ n. SpellsCommand (n ∷ words) command) (sym one.0) (manifest_dump_spelled words command one.1)
by_name name words command (inr (inr (inr (inr (inl one))))) = subst (λ n. SpellsCommand (n ∷ words) command) (sym one.0) (dump_wal_spelled words command one.1)
by_name name words command (inr (inr (inr (inr (inr (inl one)))))) = subst (λ n. SpellsCommand (n ∷ words) command) (sym one.0) (check_spelled words command one.1)
by_name name words command (inr (inr (inr (inr (inr (inr (inl one))))))) = subst (λ n. SpellsCommand (n ∷ words) command) (sym one.0) (alone_command (codes "repair") repair words command refl one.1)
by_name name words command (inr (inr (inr (inr (inr (inr (inr (inl one)))))))) = subst (λ n. SpellsCommand (n ∷ words) command) (sym one.0) (sst_spelled words command one.1)
by_name name words command (inr (inr (inr (inr (inr (inr (inr (inr (inl one))))))))) = subst (λ n. SpellsCommand (n ∷ words) command) (sym one.0) (drill_spelled words command one.1)
by_name name words command (inr (inr (inr (inr (inr (inr (inr (inr (inr none))))))))) = elim none [ ]

spelled : (words : List (List ℕ)) (command : Command) → command_of words ≡ Some command → SpellsCommand words command
unfolding command_of
spelled [] command e = absurd (none-some command e)
spelled (name ∷ words) command e = by_name name words command (named commands name words command e)

-- ---- the command of words that spell it

-- what a scan and a get make of each option and the words after it
abbrev with_to : Option (List ℕ) → How → Option KeyWord → Option KeyWord × List (List ℕ) → Option Command
with_to family how from at = option_map (scan family how from at.0) (hex_of at.1)

abbrev with_from : Option (List ℕ) → How → Option KeyWord × List (List ℕ) → Option Command
with_from family how at = with_to family how at.0 (option_at to_option at.1)

abbrev with_how : Option (List ℕ) → Option How × List (List ℕ) → Option Command
with_how family at = with_from family (unwrap_or at.0 usual) (option_at from_option at.1)

abbrev with_family : Option (List ℕ) × List (List ℕ) → Option Command
with_family at = with_how at.0 (option_at how_option at.1)

abbrev get_with_how : Option KeyWord → Option (List ℕ) → Option How × List (List ℕ) → Option Command
get_with_how key family at = option_and_then (λ k. option_map (get k family (unwrap_or at.0 usual)) (hex_of at.1)) key

abbrev get_with_family : Option KeyWord → Option (List ℕ) × List (List ℕ) → Option Command
get_with_family key at = get_with_how key at.0 (option_at how_option at.1)

scan_read : (family : Option (List ℕ)) (o : Option How) (from to : Option KeyWord) (hex : Bool) → IfSome family IsFamilyName → IfSome from IsKey → IfSome to IsKey
    → scan_of (option_words family_word family ++ (option_words how_word o ++ (option_words from_word from ++ (option_words to_word to ++ hex_words hex))))
    ≡ Some (scan family (unwrap_or o usual) from to hex)
unfolding scan_of
scan_read family o from to hex name_is from_is to_is =
    let after_from = option_words to_word to ++ hex_words hex in
    let after_how = option_words from_word from ++ after_from in
    let after_name = option_words how_word o ++ after_how in
    let to_read = option_read to_option to_word to (hex_words hex) (each_read IsKey _ key_read to to_is) (unread_hex to_option refl hex) in
    let from_read = option_read from_option from_word from after_from (each_read IsKey _ key_read from from_is)
    (unread_past from_option to_word (λ key. refl) to (hex_words hex) (unread_hex from_option refl hex)) in
    let how_is_read = option_read how_option how_word o after_how (all_read _ how_read o)
    (unread_past how_option from_word (λ key. refl) from after_from (unread_past how_option to_word (λ key. refl) to (hex_words hex) (unread_hex how_option refl hex))) in
    let name_is_read = option_read family_option family_word family after_name (each_read IsFamilyName _ name_read family name_is)
    (unread_past family_option how_word none_of_how o after_how (unread_past family_option from_word (λ key. refl) from after_from
    (unread_past family_option to_word (λ key. refl) to (hex_words hex) (unread_hex family_option refl hex)))) in
    ap (λ at. with_family at) name_is_read ∙ (ap (with_how family) how_is_read ∙ (ap (with_from family (unwrap_or o usual)) from_read
    ∙ (ap (with_to family (unwrap_or o usual) from) to_read ∙ ap (option_map (scan family (unwrap_or o usual) from to)) (hex_read hex))))

get_read : (key : KeyWord) (family : Option (List ℕ)) (o : Option How) (hex : Bool) → IsKey key → IfSome family IsFamilyName
    → get_of (key_word key ∷ option_words family_word family ++ (option_words how_word o ++ hex_words hex)) ≡ Some (get key family (unwrap_or o usual) hex)
unfolding get_of
get_read key family o hex key_is name_is =
    let after_name = option_words how_word o ++ hex_words hex in
    let how_is_read = option_read how_option how_word o (hex_words hex) (all_read _ how_read o) (unread_hex how_option refl hex) in
    let name_is_read = option_read family_option family_word family after_name (each_read IsFamilyName _ name_read family name_is)
    (unread_past family_option how_word none_of_how o (hex_words hex) (unread_hex family_option refl hex)) in
    ap (get_with_family (key_word_of (key_word key))) name_is_read ∙ (ap (get_with_how (key_word_of (key_word key)) family) how_is_read
    ∙ (ap (λ k. option_and_then (λ key. option_map (get key family (unwrap_or o usual)) (hex_of (hex_words hex))) k) (key_read key key_is)
    ∙ ap (option_map (get key family (unwrap_or o usual))) (hex_read hex)))

check_read : (o : Option How) → check_of (option_words how_word o) ≡ Some (check (unwrap_or o usual))
unfolding check_of
check_read None = refl
check_read (Some how) = ap (λ o. let at : Option How × List (List ℕ) = elim o [ Some one ↦ (Some one, []) | None ↦ (None, how_word how ∷ []) ] in alone (check (unwrap_or at.0 usual)) at.1) (how_read how)

number_then : (n : ℕ) (f : ℕ → Option Command) → n < 2 ^ 64 → option_and_then f (number_of (decimal n)) ≡ f n
number_then n f fits = ap (option_and_then f) (number_read n fits)

read_back : (words : List (List ℕ)) (command : Command) → SpellsCommand words command → command_of words ≡ Some command
unfolding command_of dump_wal_of sst_of drill_of
read_back words (scan family how from to hex) spells =
    let o = how_words_option spells.3 how spells.4 in
    ap command_of (spells.5 ∙ ap (λ w. codes "scan" ∷ option_words family_word family ++ (w ++ (option_words from_word from ++ (option_words to_word to ++ hex_words hex)))) o.1)
    ∙ (scan_read family o.0 from to hex spells.0 spells.1 spells.2 ∙ ap (λ h. Some (scan family h from to hex)) o.2)
read_back words (get key family how hex) spells =
    let o = how_words_option spells.2 how spells.3 in
    ap command_of (spells.4 ∙ ap (λ w. codes "get" ∷ key_word key ∷ option_words family_word family ++ (w ++ hex_words hex)) o.1)
    ∙ (get_read key family o.0 hex spells.0 spells.1 ∙ ap (λ h. Some (get key family h hex)) o.2)
read_back words families spells = ap command_of spells
read_back words (manifest_dump hex) spells = ap command_of spells ∙ ap (option_map manifest_dump) (hex_read hex)
read_back words (dump_wal n hex) spells = ap command_of spells.1 ∙ (number_then n (λ n. option_map (dump_wal n) (hex_of (hex_words hex))) spells.0 ∙ ap (option_map (dump_wal n)) (hex_read hex))
read_back words (check how) spells =
    let o = how_words_option spells.0 how spells.1 in
    ap command_of (spells.2 ∙ ap (λ w. codes "check" ∷ w) o.1) ∙ (check_read o.0 ∙ ap (λ h. Some (check h)) o.2)
read_back words repair spells = ap command_of spells
read_back words (sst n Check hex) spells =
    ap command_of spells.2 ∙ (number_then n (λ n. part_command n [] Check) spells.0 ∙ ap (λ h. Some (sst n Check h)) (sym spells.1))
read_back words (sst n Scan hex) spells =
    ap command_of spells.1 ∙ (number_then n (λ n. part_command n (hex_words hex) Scan) spells.0 ∙ ap (option_map (sst n Scan)) (hex_read hex))
read_back words (sst n Properties hex) spells =
    ap command_of spells.1 ∙ (number_then n (λ n. part_command n (hex_words hex) Properties) spells.0 ∙ ap (option_map (sst n Properties)) (hex_read hex))
read_back words (drill n) spells =
    ap command_of spells.2 ∙ (number_then n (λ n. cond (leb 1 n && leb n 100000) (alone (drill n) []) None) (omega (arith, spells.1))
    ∙ cond-true _ _ _ (and_from _ _ (le-leb 1 n spells.0) (le-leb n 100000 spells.1)))

pub command_of-SpellsCommand : (words : List (List ℕ)) (command : Command) → (command_of words ≡ Some command) ↔ SpellsCommand words command
command_of-SpellsCommand words command = (spelled words command, read_back words command)

-- no other command is spelled by the same words
pub SpellsCommand-unique : (words : List (List ℕ)) (command other : Command) → SpellsCommand words command → SpellsCommand words other → other ≡ command
SpellsCommand-unique words command other spells spells_other =
    some_is (sym (read_back words other spells_other) ∙ read_back words command spells)
