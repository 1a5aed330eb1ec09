-- What a feed has still to give, by where it stands in a block.
use Rattle.std.proofs.Common.{◌≡◌, ◌⊎◌, ℕ, ◌+◌, ◌<◌, ◌≤◌, Bool, true, false, ◌||◌, cond, List, [], ◌∷◌, ◌++◌, length, take, drop, Option, Some, None, Ok, refl, sym, ap, subst, ◌∙◌, inl, inr, arith, length-append, length-drop, take_all}
use Rattle.std.specs.Prelude.{nat_lt, ◌==◌}
use Rattle.std.proofs.Math.Seq.{take-append_seam, drop-append_seam}
use Rattle.std.proofs.lemmas.List.{drop_all, append-nil}
use Rattle.std.proofs.lemmas.Bool.{le-ltb}
use Rattle.rk_bytes.specs.Model.LogMarks.{Mark, LogFile, block_len, blocks_marks, file_blocks, block_type, type_of, is_zero_header, first_type, is_recyclable, is_recycled, up_to_end, log_marks}
use Rattle.rk_log.specs.declared.item.Item as Seen
use Rattle.rk_log.specs.declared.joining.Unfinished.{Unfinished}
use Rattle.rk_log.specs.declared.joining.Joining.{Joining}
use Rattle.rk_log.specs.declared.feed.LogFeed.{LogFeed}
use Rattle.rk_log.specs.Items.{item_of}
use Rattle.rk_log.specs.Blocks.{or_says}
use Rattle.rk_log.specs.Left.{Left, Gives, begun, left_of, log_left, left_behind, recycled_in, file_of, rest_marks, left_in, left}
use Rattle.rk_log.specs.Steps.{IsFileEnd, MayFollow, Advances}
use Rattle.rk_log.proofs.BlockLemmas.{block_len-value, rest_marks-nothing, blocks_marks-first, first_type-first, file_blocks-none, type_or}
use Rattle.rk_log.proofs.FoundLemmas.{found-blank}
use Rattle.rk_log.proofs.JoinLemmas.{left_behind-open, Gives-at}

-- a block that is handed in is full, or the file's last
pub IsHanded : List ℕ → List ℕ → Type 0
IsHanded block rest = (length block ≡ 32768) ⊎ ((length block ≤ 32768) × (rest ≡ []))

pub handed : (block rest : List ℕ) (is_last : Bool) → length block ≤ 32768 → (is_last ≡ false → length block ≡ 32768) → MayFollow is_last rest → IsHanded block rest
unfolding IsHanded
handed block rest true within full may = inr (within, may refl)
handed block rest false within full may = inl (full refl)

take-block : (block rest : List ℕ) → IsHanded block rest → take block_len (block ++ rest) ≡ block
unfolding IsHanded
take-block block rest (inl full) = ap (λ n. take n (block ++ rest)) (block_len-value ∙ sym full) ∙ take-append_seam block rest
take-block block rest (inr last) = ap (λ r. take block_len (block ++ r)) last.1 ∙ (ap (take block_len) (append-nil block) ∙ take_all block_len block (omega (arith, block_len-value, last.0)))

drop-block : (block rest : List ℕ) → IsHanded block rest → drop block_len (block ++ rest) ≡ rest
unfolding IsHanded
drop-block block rest (inl full) = ap (λ n. drop n (block ++ rest)) (block_len-value ∙ sym full) ∙ drop-append_seam block rest
drop-block block rest (inr last) = ap (λ r. drop block_len (block ++ r)) last.1 ∙ (ap (drop block_len) (append-nil block) ∙ (drop_all block_len block (omega (arith, block_len-value, last.0)) ∙ sym last.1))

-- where an earlier header said what the file is
pub left-known : (feed : LogFeed) (recycled : Bool) (block rest : List ℕ) → feed.recycled ≡ Some recycled → IsHanded block rest
    → let file : LogFile = record { number = feed.number; recycled = recycled } in
    left feed (block ++ rest) ≡ left_in file feed (feed.before + length (block ++ rest)) block (blocks_marks file (feed.before + block_len) (file_blocks rest))
unfolding left
left-known feed recycled block rest known h = λ i.
    let file : LogFile = record { number = feed.number; recycled = ap (λ one. recycled_in one (block ++ rest)) known i } in
    left_in file feed (feed.before + length (block ++ rest)) (take-block block rest h i) (blocks_marks file (feed.before + block_len) (file_blocks (drop-block block rest h i)))

-- before the first byte of a block
pub left-start : (feed : LogFeed) (bytes : List ℕ) → feed.at ≡ 0
    → left feed bytes ≡ left_behind feed.joining (feed.before + length bytes) (blocks_marks (file_of feed bytes) feed.before (file_blocks bytes))
unfolding left left_in
left-start feed bytes start =
    (λ i. left_behind feed.joining (feed.before + length bytes) (rest_marks (file_of feed bytes) feed.before (start i) (take block_len bytes)
    ++ blocks_marks (file_of feed bytes) (feed.before + block_len) (file_blocks (drop block_len bytes))))
    ∙ ap (left_behind feed.joining (feed.before + length bytes)) (sym (blocks_marks-first (file_of feed bytes) feed.before bytes))

-- the whole log
pub left-new : (feed : LogFeed) (number : ℕ) (bytes : List ℕ) → feed.number ≡ number → feed.recycled ≡ None → feed.before ≡ 0 → feed.at ≡ 0
    → ((file_len : ℕ) (marks : List Mark) → left_behind feed.joining file_len marks ≡ left_of None (up_to_end file_len marks))
    → left feed bytes ≡ log_left number bytes
unfolding log_marks left_of
left-new feed number bytes number_is unknown first start joining =
    let whole : feed.before + length bytes ≡ length bytes = omega (arith, first) in
    left-start feed bytes start
    ∙ (joining (feed.before + length bytes) (blocks_marks (file_of feed bytes) feed.before (file_blocks bytes))
    ∙ (λ i. left_of None (up_to_end (whole i)
    (blocks_marks (record { number = number_is i; recycled = ap (λ one. recycled_in one bytes) unknown i }) (first i) (file_blocks bytes)))))

-- the next mark of the block is taken
ahead_by : (file : LogFile) (before at len : ℕ) (block : List ℕ) (later : List Mark) (mark : Mark) → rest_marks file before at block ≡ mark ∷ rest_marks file before (at + len) block
    → rest_marks file before at block ++ later ≡ mark ∷ (rest_marks file before (at + len) block ++ later)
ahead_by file before at len block later mark is = ap (λ marks. marks ++ later) is

pub left_in-before : (file : LogFile) (feed : LogFeed) (before file_len : ℕ) (block : List ℕ) (later : List Mark) → feed.before ≡ before
    → left_in file feed file_len block later ≡ left_behind feed.joining file_len (rest_marks file before feed.at block ++ later)
unfolding left_in
left_in-before file feed before file_len block later is = λ i. left_behind feed.joining file_len (rest_marks file (is i) feed.at block ++ later)

pub advance-gives : (file : LogFile) (old new : LogFeed) (block : List ℕ) (mark : Mark) (len : ℕ) (item : Seen.Item)
    → rest_marks file old.before old.at block ≡ mark ∷ rest_marks file old.before (old.at + len) block → Advances old mark len (Ok (Some item)) new
    → (file_len : ℕ) (later : List Mark) → Gives (left_in file old file_len block later) (item_of item) (left_in file new file_len block later)
advance-gives file old new block mark len item is h file_len later =
    Gives-at (item_of item) (left_in-before file old old.before file_len block later refl) refl (left_in-before file new old.before file_len block later h.0.before)
    (h.2 (λ at. rest_marks file old.before at block ++ later) file_len (ahead_by file old.before old.at len block later mark is))

pub advance-passes : (file : LogFile) (old new : LogFeed) (block : List ℕ) (mark : Mark) (len : ℕ)
    → rest_marks file old.before old.at block ≡ mark ∷ rest_marks file old.before (old.at + len) block → Advances old mark len (Ok None) new
    → (file_len : ℕ) (later : List Mark) → left_in file new file_len block later ≡ left_in file old file_len block later
advance-passes file old new block mark len is h file_len later =
    left_in-before file new old.before file_len block later h.0.before
    ∙ (h.3 (λ at. rest_marks file old.before at block ++ later) file_len (ahead_by file old.before old.at len block later mark is)
    ∙ sym (left_in-before file old old.before file_len block later refl))

only_end : (unfinished : Option Unfinished) (file_len : ℕ) → IsFileEnd (left_of (begun unfinished) (up_to_end file_len [])).items
unfolding left_of
only_end None file_len = (file_len, inl refl)
only_end (Some one) file_len = (one.place, inr refl)

pub IsFileEnd-none : (joining : Joining) (file_len : ℕ) → joining.given ≡ None → IsFileEnd (left_behind joining file_len []).items
IsFileEnd-none joining file_len goes_on =
    subst (λ (left : Left). IsFileEnd left.items) (sym (left_behind-open joining joining.unfinished file_len [] goes_on refl)) (only_end joining.unfinished file_len)

-- ---- the first header of a block

looked_by : (one : Option ℕ) (is_last : Bool) (bytes rest : List ℕ) → first_type (file_blocks bytes) ≡ type_or one (first_type (file_blocks rest)) → MayFollow is_last rest
    → recycled_in (elim one as (λ _. Option Bool) [ Some kind ↦ Some (is_recyclable kind) | None ↦ cond is_last (Some false) None ]) bytes ≡ is_recycled (first_type (file_blocks bytes))
unfolding type_or
looked_by (Some kind) is_last bytes rest is may = sym (ap is_recycled is)
looked_by None true bytes rest is may = sym (ap is_recycled (is ∙ ap first_type (file_blocks-none rest (ap length (may refl)))))
looked_by None false bytes rest is may = refl

pub recycled-looked : (known : Option Bool) (block rest : List ℕ) (is_last : Bool) → IsHanded block rest → MayFollow is_last rest
    → recycled_in (or_says known block is_last) (block ++ rest) ≡ recycled_in known (block ++ rest)
recycled-looked (Some one) block rest is_last h may = refl
recycled-looked None block rest is_last h may =
    looked_by (block_type block) is_last (block ++ rest) rest
    (first_type-first (block ++ rest) ∙ (λ i. type_or (block_type (take-block block rest h i)) (first_type (file_blocks (drop-block block rest h i))))) may

type_or-none : (later : Option ℕ) → type_or None later ≡ later
unfolding type_or
type_or-none later = refl

pub recycled-blank : (block rest : List ℕ) → IsHanded block rest → block_type block ≡ None → recycled_in None (block ++ rest) ≡ recycled_in None rest
recycled-blank block rest h none =
    let parts : first_type (file_blocks (block ++ rest)) ≡ type_or (block_type block) (first_type (file_blocks rest)) =
    first_type-first (block ++ rest) ∙ (λ i. type_or (block_type (take-block block rest h i)) (first_type (file_blocks (drop-block block rest h i)))) in
    ap is_recycled (parts ∙ (ap (λ one. type_or one (first_type (file_blocks rest))) none ∙ type_or-none (first_type (file_blocks rest))))

pub left-looked : (old new : LogFeed) (bytes : List ℕ) → new.number ≡ old.number → recycled_in new.recycled bytes ≡ recycled_in old.recycled bytes → new.before ≡ old.before → new.at ≡ old.at → new.joining ≡ old.joining
    → left new bytes ≡ left old bytes
unfolding left left_in
left-looked old new bytes number recycled before at joining = λ i.
    let file : LogFile = record { number = number i; recycled = recycled i } in
    left_behind (joining i) (before i + length bytes) (rest_marks file (before i) (at i) (take block_len bytes) ++ blocks_marks file (before i + block_len) (file_blocks (drop block_len bytes)))

-- a full block without a header has no marks
pub says-none : (one : Option ℕ) (is_last : Bool) → (elim one as (λ _. Option Bool) [ Some kind ↦ Some (is_recyclable kind) | None ↦ cond is_last (Some false) None ]) ≡ None → (one ≡ None) × (is_last ≡ false)
says-none (Some kind) is_last is = absurd (let no : ⊥ = cc in no)
says-none None true is = absurd (let no : ⊥ = cc in no)
says-none None false is = (refl, refl)

blank_type : (blank : Bool) (kind : ℕ) → cond blank None (Some kind) ≡ None → blank ≡ true
blank_type true kind is = refl
blank_type false kind is = absurd (let no : ⊥ = cc in no)

pub rest_marks-blank : (file : LogFile) (before : ℕ) (block : List ℕ) → length block ≡ 32768 → block_type block ≡ None → rest_marks file before 0 block ≡ []
rest_marks-blank file before block full none =
    let blank = blank_type (nat_lt (length block) 7 || is_zero_header block) (type_of block) none in
    let long : nat_lt (length block) 7 ≡ false = le-ltb _ _ (omega arith) in
    let zero : is_zero_header block ≡ true = ap (λ short. short || is_zero_header block) (sym long) ∙ blank in
    let some : 0 < length (drop 0 block) = omega (arith, full) in
    rest_marks-nothing file before 0 block some (found-blank file (length block == block_len) (before + 0) block (omega arith) zero)

-- Reading has gone on to the next block, behind one that ends no further item.
pub goes_on-left : (old new : LogFeed) (block rest : List ℕ) → new.at ≡ 0 → new.number ≡ old.number → new.recycled ≡ old.recycled → recycled_in old.recycled (block ++ rest) ≡ recycled_in old.recycled rest
    → new.before ≡ old.before + length block → new.joining ≡ old.joining → length block ≡ 32768
    → rest_marks (file_of old (block ++ rest)) old.before old.at block ≡ []
    → left new rest ≡ left old (block ++ rest)
unfolding left left_in
goes_on-left old new block rest start number recycled known before joining full none =
    let whole : new.before + length rest ≡ old.before + length (block ++ rest) = omega (arith, before, length-append block rest) in
    let next : new.before ≡ old.before + block_len = omega (arith, before, full, block_len-value) in
    let h : IsHanded block rest = unfold IsHanded in inl full in
    left-start new rest start
    ∙ (λ i. left_behind (joining i) (whole i) (blocks_marks (record { number = number i; recycled = recycled_in (recycled i) rest }) (next i) (file_blocks rest)))
    ∙ (λ i. left_behind old.joining (old.before + length (block ++ rest)) (blocks_marks (record { number = old.number; recycled = sym known i }) (old.before + block_len) (file_blocks (sym (drop-block block rest h) i))))
    ∙ ap (λ marks. left_behind old.joining (old.before + length (block ++ rest)) (marks ++ blocks_marks (file_of old (block ++ rest)) (old.before + block_len) (file_blocks (drop block_len (block ++ rest)))))
    (sym none ∙ ap (rest_marks (file_of old (block ++ rest)) old.before old.at) (sym (take-block block rest h)))

-- were a block that ends no further item the last, the file's end alone were left
pub IsFileEnd-left : (feed : LogFeed) (block : List ℕ) → feed.joining.given ≡ None → length block ≡ 32768 → rest_marks (file_of feed block) feed.before feed.at block ≡ [] → IsFileEnd (left feed block).items
unfolding left left_in
IsFileEnd-left feed block goes_on full none =
    let taken : take block_len block ≡ block = take_all block_len block (omega (arith, block_len-value)) in
    let dropped : file_blocks (drop block_len block) ≡ [] = file_blocks-none (drop block_len block) (length-drop block_len block ∙ omega (arith, block_len-value)) in
    let ahead : rest_marks (file_of feed block) feed.before feed.at (take block_len block) ++ blocks_marks (file_of feed block) (feed.before + block_len) (file_blocks (drop block_len block)) ≡ [] =
    (λ i. rest_marks (file_of feed block) feed.before feed.at (taken i) ++ blocks_marks (file_of feed block) (feed.before + block_len) (dropped i)) ∙ ap (λ marks. marks ++ blocks_marks (file_of feed block) (feed.before + block_len) []) none ∙ (unfold blocks_marks in refl) in
    subst (λ marks. IsFileEnd (left_behind feed.joining (feed.before + length block) marks).items) (sym ahead) (IsFileEnd-none feed.joining (feed.before + length block) goes_on)
