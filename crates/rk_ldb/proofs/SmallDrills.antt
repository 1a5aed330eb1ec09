-- The number of a drill that words spell is one that its directory can have.
use Rattle.std.proofs.Common.{◌≡◌, ℕ, ◌≤◌, Bool, true, false, cond, List, [], ◌∷◌, Option, Some, None, sym, subst, refl}
use Rattle.std.specs.Prelude.{nat_le, ◌&&◌, if◌then◌else◌, find, bytes_eq, option_map, unwrap_or, IfSome}
use Rattle.std.specs.Option.{option_and_then}
use Rattle.std.proofs.lemmas.Bool.{leb-true}
use Rattle.rk_bytes.specs.declared.model.command.SstPart.{SstPart}
use Rattle.rk_bytes.specs.declared.model.command.SstPart.TheVariants.{Check, Scan, Properties}
use Rattle.rk_bytes.specs.Model.Grammar.{Command, scan, get, families, manifest_dump, dump_wal, check, repair, sst, drill, usual, family_option, how_option, from_option, to_option, option_at, hex_of, alone, part_command, sst_part_of, number_of, key_word_of, scan_of, get_of, dump_wal_of, check_of, sst_of, drill_of, commands, command_of}
use Rattle.rk_ldb.specs.declared.command.Command.{Command as Read}
use Rattle.rk_ldb.specs.declared.command.Command.TheVariants as read
use Rattle.rk_ldb.specs.Commands.{told, IsSmall}

-- the number of a drill is small
abbrev Small : Command → Type 0
Small (drill n) = n ≤ 100000
Small _ = Unit {0}

module _ {A : Type 0} where
  mapped : (f : A → Command) → ((a : A) → Small (f a)) → (o : Option A) → IfSome (option_map f o) Small
  mapped f small (Some a) = small a
  mapped f small None = tt

  chained : (f : A → Option Command) → ((a : A) → IfSome (f a) Small) → (o : Option A) → IfSome (option_and_then f o) Small
  chained f small (Some a) = small a
  chained f small None = tt

by_itself : (command : Command) → Small command → (words : List (List ℕ)) → IfSome (alone command words) Small
by_itself command small [] = small
by_itself command small (word ∷ words) = tt

small_scan : (words : List (List ℕ)) → IfSome (scan_of words) Small
unfolding scan_of
small_scan words =
    let family = option_at family_option words in
    let how = option_at how_option family.1 in
    let from = option_at from_option how.1 in
    let to = option_at to_option from.1 in
    mapped (scan family.0 (unwrap_or how.0 usual) from.0 to.0) (λ hex. tt) (hex_of to.1)

small_get : (words : List (List ℕ)) → IfSome (get_of words) Small
unfolding get_of
small_get [] = tt
small_get (word ∷ words) =
    let family = option_at family_option words in
    let how = option_at how_option family.1 in
    chained (λ key. option_map (get key family.0 (unwrap_or how.0 usual)) (hex_of how.1)) (λ key. mapped (get key family.0 (unwrap_or how.0 usual)) (λ hex. tt) (hex_of how.1)) (key_word_of word)

small_log : (words : List (List ℕ)) → IfSome (dump_wal_of words) Small
unfolding dump_wal_of
small_log [] = tt
small_log (number ∷ words) = chained (λ n. option_map (dump_wal n) (hex_of words)) (λ n. mapped (dump_wal n) (λ hex. tt) (hex_of words)) (number_of number)

small_check : (words : List (List ℕ)) → IfSome (check_of words) Small
unfolding check_of
small_check words = let how = option_at how_option words in by_itself (check (unwrap_or how.0 usual)) tt how.1

small_part : (n : ℕ) (words : List (List ℕ)) (part : SstPart) → IfSome (part_command n words part) Small
small_part n words Check = by_itself (sst n Check false) tt words
small_part n words Scan = mapped (sst n Scan) (λ hex. tt) (hex_of words)
small_part n words Properties = mapped (sst n Properties) (λ hex. tt) (hex_of words)

small_sst : (words : List (List ℕ)) → IfSome (sst_of words) Small
unfolding sst_of
small_sst [] = tt
small_sst (number ∷ []) = tt
small_sst (number ∷ part ∷ words) = chained (λ n. option_and_then (part_command n words) (sst_part_of part)) (λ n. chained (part_command n words) (small_part n words) (sst_part_of part)) (number_of number)

counted : (n : ℕ) (words : List (List ℕ)) → IfSome (if nat_le 1 n && nat_le n 100000 then alone (drill n) words else None) Small
counted n words = by (nat_le 1 n) (nat_le n 100000) (λ is. leb-true n 100000 is)
  where
    by : (some few : Bool) → (few ≡ true → n ≤ 100000) → IfSome (if some && few then alone (drill n) words else None) Small
    by true true small = by_itself (drill n) (small refl) words
    by true false small = tt
    by false few small = tt

small_drill : (words : List (List ℕ)) → IfSome (drill_of words) Small
unfolding drill_of
small_drill [] = tt
small_drill (number ∷ words) = chained (λ n. if nat_le 1 n && nat_le n 100000 then alone (drill n) words else None) (λ n. counted n words) (number_of number)

-- each of the commands with these names is small
AllSmall : List (List ℕ × (List (List ℕ) → Option Command)) → Type 0
AllSmall [] = Unit {0}
AllSmall (one ∷ more) = ((words : List (List ℕ)) → IfSome (one.1 words) Small) × AllSmall more

found_small : (all : List (List ℕ × (List (List ℕ) → Option Command))) (name : List ℕ) (words : List (List ℕ)) → AllSmall all → IfSome (option_and_then (λ named. named.1 words) (find (λ named. bytes_eq named.0 name) all)) Small
unfolding AllSmall
found_small [] name words small = tt
found_small (one ∷ more) name words small = by (bytes_eq one.0 name) (found_small more name words small.1)
  where
    by : (same : Bool) → IfSome (option_and_then (λ (named : List ℕ × (List (List ℕ) → Option Command)). named.1 words) (find (λ named. bytes_eq named.0 name) more)) Small
        → IfSome (option_and_then (λ (named : List ℕ × (List (List ℕ) → Option Command)). named.1 words) (cond same (Some one) (find (λ named. bytes_eq named.0 name) more))) Small
    by true others = small.0 words
    by false others = others

all_small : AllSmall commands
unfolding AllSmall
all_small = (small_scan, (small_get, (by_itself families tt, ((λ words. mapped (λ hex. manifest_dump hex) (λ hex. tt) (hex_of words)), (small_log, (small_check, (by_itself repair tt, (small_sst, (small_drill, tt)))))))))

spelled_small : (words : List (List ℕ)) → IfSome (command_of words) Small
unfolding command_of
spelled_small [] = tt
spelled_small (name ∷ words) = found_small commands name words all_small

told_small : (command : Read) → Small (told command) → IsSmall command
told_small (read.Scan family how from to hex) small = tt
told_small (read.Get key family how hex) small = tt
told_small read.Families small = tt
told_small (read.ManifestDump hex) small = tt
told_small (read.DumpWal number hex) small = tt
told_small (read.Check how) small = tt
told_small read.Repair small = tt
told_small (read.Sst number part hex) small = tt
told_small (read.Drill number) small = small

pub small_command : (words : List (List ℕ)) (command : Read) → ◌≡◌ {A = Option Command} (Some (told command)) (command_of words) → IsSmall command
small_command words command is = told_small command (subst (λ (found : Option Command). IfSome found Small) (sym is) (spelled_small words))
