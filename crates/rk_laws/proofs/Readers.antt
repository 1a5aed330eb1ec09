-- Readers that give just what is spelled, and how they are put together.
use Rattle.std.proofs.Common.{◌≡◌, ◌↔◌, ℕ, Bool, true, false, cond, List, ◌++◌, length, Result, Ok, Err, refl, sym, ◌∙◌, ap, subst, append_assoc}
use Rattle.std.proofs.lemmas.Bool.{cond-true, cond-false}
use Rattle.rk_bytes.specs.Model.Numbers.{AreBytes, Read, ◌>>=◌, IsVarint32, IsVarint64, IsPrefixed, part_of, varint32_at, varint64_at, prefixed_at, reads_or}
use Rattle.rk_bytes.specs.Model.BlockEntries.{with_fault}
use Rattle.rk_bytes.proofs.Callers.Readings.{both_steps, first_step, with_fault_ok, passed, taken, bytes_after, part_of_ok, part_of-append, varint32_ok, varint32-append, varint64_ok, varint64-append, prefixed_ok, prefixed-append}

-- the bytes that spell what was read, and those after it
pub record Front {A : Type 0} (Spells : List ℕ → A → Type 0) (bytes : List ℕ) (r : A × List ℕ) : Type 0 where
  pub part : List ℕ
  pub whole : bytes ≡ part ++ r.1
  pub spells : Spells part r.0
  pub after : AreBytes r.1

-- What is read is spelled, and what is spelled is read.
pub record Exact {A F : Type 0} (read : List ℕ → Result (A × List ℕ) F) (Spells : List ℕ → A → Type 0) : Type 0 where
  pub reads : (bytes : List ℕ) (r : A × List ℕ) → AreBytes bytes → read bytes ≡ Ok r → Front Spells bytes r
  pub spelled : (part rest : List ℕ) (x : A) → Spells part x → read (part ++ rest) ≡ Ok (x, rest)

-- a value is read at the front of bytes just where they begin with a spelling of it
pub read-iff-spelled : {A F : Type 0} (read : List ℕ → Result (A × List ℕ) F) (S : List ℕ → A → Type 0) → Exact read S → (bytes rest : List ℕ) (a : A) → AreBytes bytes → (read bytes ≡ Ok (a, rest)) ↔ ((part : List ℕ) × S part a × (bytes ≡ part ++ rest))
read-iff-spelled read S x bytes rest a are = (
  λ e. let f = x.reads bytes (a, rest) are e in (f.part, f.spells, f.whole),
  λ spelled. let (part, is, whole) = spelled in ap read whole ∙ x.spelled part rest a is,
)

-- a step of a reading: what was read, what spells it, and how the reading goes on
pub read_then : {A B F C : Type 0} (read : List ℕ → Result (A × List ℕ) F) (S : List ℕ → A → Type 0) → Exact read S → (bytes : List ℕ) (f : A × List ℕ → Result B F) (b : B) → AreBytes bytes → (read bytes >>= f) ≡ Ok b
    → ((a : A × List ℕ) → Front S bytes a → f a ≡ Ok b → C) → C
read_then read S x bytes f b are e so = both_steps (read bytes) f b e λ a a_read e1. so a (x.reads bytes a are a_read) e1

-- a step over what is spelled, where more of the same spelling follows
pub spelled_then : {A B F : Type 0} (read : List ℕ → Result (A × List ℕ) F) (S : List ℕ → A → Type 0) → Exact read S → (part more rest : List ℕ) (f : A × List ℕ → Result B F) (a : A) → S part a → (read ((part ++ more) ++ rest) >>= f) ≡ f (a, more ++ rest)
spelled_then read S x part more rest f a s =
    ap (λ bytes. read bytes >>= f) (append_assoc part more rest) ∙ first_step (read (part ++ (more ++ rest))) f (a, more ++ rest) (x.spelled part (more ++ rest) a s)

-- and where it is the last
pub spelled_last : {A B F : Type 0} (read : List ℕ → Result (A × List ℕ) F) (S : List ℕ → A → Type 0) → Exact read S → (part rest : List ℕ) (f : A × List ℕ → Result B F) (a : A) → S part a → (read (part ++ rest) >>= f) ≡ f (a, rest)
spelled_last read S x part rest f a s = first_step (read (part ++ rest)) f (a, rest) (x.spelled part rest a s)

-- two parts in a row, and what follows them
pub joined : {bytes after : List ℕ} (a b rest : List ℕ) → bytes ≡ a ++ after → after ≡ b ++ rest → bytes ≡ (a ++ b) ++ rest
joined a b rest first second = first ∙ ap (λ bytes. a ++ bytes) second ∙ sym (append_assoc a b rest)

pub front_as : {A : Type 0} (S T : List ℕ → A → Type 0) (bytes : List ℕ) (r : A × List ℕ) → ((part : List ℕ) (x : A) → S part x → T part x) → Front S bytes r → Front T bytes r
front_as S T bytes r to f = record { part = f.part; whole = f.whole; spells = to f.part r.0 f.spells; after = f.after }

pub exact_varint32 : Exact varint32_at IsVarint32
exact_varint32 = record {
  reads = λ bytes r are e. let (part, whole, is, after) = varint32_ok bytes r are e in record { part = part; whole = whole; spells = is; after = after };
  spelled = varint32-append;
}

pub exact_varint64 : Exact varint64_at IsVarint64
exact_varint64 = record {
  reads = λ bytes r are e. let (part, whole, is, after) = varint64_ok bytes r are e in record { part = part; whole = whole; spells = is; after = after };
  spelled = varint64-append;
}

pub exact_prefixed : Exact prefixed_at IsPrefixed
exact_prefixed = record {
  reads = λ bytes r are e. let (part, whole, is, after) = prefixed_ok bytes r are e in record { part = part; whole = whole; spells = is; after = after };
  spelled = prefixed-append;
}

-- so many bytes
abbrev pub IsPart : ℕ → List ℕ → List ℕ → Type 0
IsPart n part x = (part ≡ x) × (length part ≡ n)

pub exact_part : (n : ℕ) → Exact (part_of n) (IsPart n)
exact_part n = record {
  reads = λ bytes r are e. let (whole, len) = part_of_ok n bytes r e in record { part = r.0; whole = whole; spells = (refl, len); after = bytes_after bytes r.0 r.1 are whole };
  spelled = λ part rest x s. subst (λ n. part_of n (part ++ rest) ≡ Ok (part, rest)) s.1 (part_of-append part rest) ∙ ap (λ x. Ok (x, rest)) s.0;
}

-- with another word for the fault
pub exact_word : {A F G : Type 0} (word : F → G) (read : List ℕ → Result (A × List ℕ) F) (S : List ℕ → A → Type 0) → Exact read S → Exact (λ bytes. with_fault word (read bytes)) S
exact_word word read S x = record {
  reads = λ bytes r are e. x.reads bytes r are (with_fault_ok word (read bytes) r e);
  spelled = λ part rest a s. ap (with_fault word) (x.spelled part rest a s);
}

pub reads_or_ok : {A F : Type 0} (fault : F) (read : Read A) (r : A × List ℕ) → reads_or fault read ≡ Ok r → read ≡ Ok r
reads_or_ok fault (Ok one) r e = cc
reads_or_ok fault (Err why) r e = absurd cc

-- with another fault
pub exact_or : {A F : Type 0} (fault : F) (read : List ℕ → Read A) (S : List ℕ → A → Type 0) → Exact read S → Exact (λ bytes. reads_or fault (read bytes)) S
exact_or fault read S x = record {
  reads = λ bytes r are e. x.reads bytes r are (reads_or_ok fault (read bytes) r e);
  spelled = λ part rest a s. ap (reads_or fault) (x.spelled part rest a s);
}

-- under another relation that says the same
pub exact_as : {A F : Type 0} (read : List ℕ → Result (A × List ℕ) F) (S T : List ℕ → A → Type 0) → Exact read S → ((part : List ℕ) (x : A) → S part x → T part x) → ((part : List ℕ) (x : A) → T part x → S part x) → Exact read T
exact_as read S T x to from = record {
  reads = λ bytes r are e. front_as S T bytes r to (x.reads bytes r are e);
  spelled = λ part rest a t. x.spelled part rest a (from part a t);
}

-- one thing after another, the second by what the first is
pub record Both {A B : Type 0} (S : List ℕ → A → Type 0) (T : A → List ℕ → B → Type 0) (bytes : List ℕ) (b : B) : Type 0 where
  pub one : A
  pub front : List ℕ
  pub back : List ℕ
  pub whole : bytes ≡ front ++ back
  pub first : S front one
  pub second : T one back b

pub exact_then : {A B F : Type 0} (first : List ℕ → Result (A × List ℕ) F) (second : A → List ℕ → Result (B × List ℕ) F) (S : List ℕ → A → Type 0) (T : A → List ℕ → B → Type 0) → Exact first S → ((a : A) → Exact (second a) (T a)) → Exact (λ bytes. first bytes >>= λ a. second a.0 a.1) (Both S T)
exact_then first second S T x y = record {
  reads = λ bytes r are e.
      both_steps (first bytes) _ r e λ a a_read e1.
      let f = x.reads bytes a are a_read in
      let s = (y a.0).reads a.1 r f.after e1 in
      record {
        part = f.part ++ s.part;
        whole = f.whole ∙ ap (λ bytes. f.part ++ bytes) s.whole ∙ sym (append_assoc f.part s.part r.1);
        spells = record { one = a.0; front = f.part; back = s.part; whole = refl; first = f.spells; second = s.spells };
        after = s.after;
      };
  spelled = λ part rest b s.
      let whole : part ++ rest ≡ s.front ++ (s.back ++ rest) = ap (λ bytes. bytes ++ rest) s.whole ∙ append_assoc s.front s.back rest in
      ap (λ bytes. first bytes >>= λ a. second a.0 a.1) whole
      ∙ first_step (first (s.front ++ (s.back ++ rest))) _ (s.one, s.back ++ rest) (x.spelled s.front (s.back ++ rest) s.one s.first)
      ∙ (y s.one).spelled s.back rest b s.second;
}

-- a value that is made of what is read
pub record Made {A B : Type 0} (make : A → B) (S : List ℕ → A → Type 0) (bytes : List ℕ) (b : B) : Type 0 where
  pub of : A
  pub is : make of ≡ b
  pub spells : S bytes of

pub exact_made : {A B F : Type 0} (make : A → B) (read : List ℕ → Result (A × List ℕ) F) (S : List ℕ → A → Type 0) → Exact read S → Exact (λ bytes. read bytes >>= λ a. Ok (make a.0, a.1)) (Made make S)
exact_made {A} {B} make read S x = record {
  reads = λ bytes r are e.
      both_steps (read bytes) _ r e λ a a_read e1.
      let f = x.reads bytes a are a_read in
      let same : (make a.0, a.1) ≡ r = cc in
      subst (λ (r : B × List ℕ). Front (Made make S) bytes r) same (record { part = f.part; whole = f.whole; spells = record { of = a.0; is = refl; spells = f.spells }; after = f.after });
  spelled = λ part rest b s. first_step (read (part ++ rest)) _ (s.of, rest) (x.spelled part rest s.of s.spells) ∙ ap (λ b. Ok (b, rest)) s.is;
}

-- a value that has to pass a test
pub exact_tested : {A F : Type 0} (test : A → Bool) (fault : F) (read : List ℕ → Result (A × List ℕ) F) (S T : List ℕ → A → Type 0) → Exact read S
    → ((part : List ℕ) (x : A) → S part x → test x ≡ true → T part x) → ((part : List ℕ) (x : A) → T part x → S part x × (test x ≡ true))
    → Exact (λ bytes. read bytes >>= λ a. cond (test a.0) (Ok a) (Err fault)) T
exact_tested {A} test fault read S T x to from = record {
  reads = λ bytes r are e.
      both_steps (read bytes) _ r e λ a a_read e1.
      let (right, same) = taken (test a.0) fault a r e1 in
      let f = x.reads bytes a are a_read in
      subst (λ (r : A × List ℕ). Front T bytes r) same (record { part = f.part; whole = f.whole; spells = to f.part a.0 f.spells right; after = f.after });
  spelled = λ part rest a t.
      let (s, right) = from part a t in
      first_step (read (part ++ rest)) _ (a, rest) (x.spelled part rest a s) ∙ cond-true (test a) _ _ right;
}

-- a reading that is refused at once by a test
pub exact_unless : {A F : Type 0} (b : Bool) (fault : F) (read : List ℕ → Result (A × List ℕ) F) (S : List ℕ → A → Type 0) → Exact read S → Exact (λ bytes. cond b (Err fault) (read bytes)) (λ part x. S part x × (b ≡ false))
exact_unless b fault read S x = record {
  reads = λ bytes r are e.
      let (apart, read_is) = passed b fault (read bytes) r e in
      let f = x.reads bytes r are read_is in
      record { part = f.part; whole = f.whole; spells = (f.spells, apart); after = f.after };
  spelled = λ part rest a s. cond-false b _ _ s.1 ∙ x.spelled part rest a s.0;
}

-- three parts in a row before others
pub regroup : (a b c rest : List ℕ) → (a ++ (b ++ c)) ++ rest ≡ a ++ (b ++ (c ++ rest))
regroup a b c rest = simp append_assoc
