-- What an output took, line after line.
use Rattle.std.proofs.Common.{◌≡◌, ℕ, ◌+◌, min, List, [], ◌∷◌, ◌++◌, length, take, Option, Some, None, Result, Ok, Err, subst, refl, sym, ap, ◌∙◌, arith, append_assoc}
use Rattle.std.specs.Prelude.{option_map, IsErrOf}
use Rattle.std.proofs.lemmas.Grind.{flat_map-append}
use Rattle.std.proofs.lemmas.List.{append-nil, take_min, take-append-le}
use Rattle.std.proofs.Math.Seq.{take-append-add}
use Rattle.rk_bytes.specs.Model.Output.{Took, TookLines, TookFront, joined}
use Rattle.rk_disk.specs.declared.disk.DiskErr.{DiskErr}
use Rattle.rk_disk.specs.declared.disk.DiskErr.TheVariants as disk
use Rattle.rk_disk.specs.declared.sink.SinkErr.{SinkErr}
use Rattle.rk_disk.specs.declared.sink.SinkErr.TheVariants as sink
use Rattle.rk_ldb.specs.declared.stop.Stop.{Stop}
use Rattle.rk_ldb.specs.declared.stop.Stop.TheVariants.{Disk, Sink, Memory}
use Rattle.rk_ldb.specs.Stops.{disk_stop, sink_stop, TookLine, TookUpTo, DiskStops}
use Rattle.rk_ldb.specs.Wrote.{Wrote}

pub took_nothing : (taken : Option (List ℕ)) → Took taken taken []
took_nothing None = refl
took_nothing (Some front) = ap Some (sym (append-nil front))

pub took_more : (before between after : Option (List ℕ)) (first second : List ℕ) → Took before between first → Took between after second → Took before after (first ++ second)
took_more None between after first second one two = two ∙ ap (option_map (λ front. front ++ second)) one
took_more (Some front) between after first second one two =
    two ∙ (ap (option_map (λ f. f ++ second)) one ∙ ap Some (append_assoc front first second))

-- the same bytes in other words
took_same : (before after : Option (List ℕ)) (first second : List ℕ) → Took before after first → first ≡ second → Took before after second
took_same before after first second took same = took ∙ ap (λ bytes. option_map (λ front. front ++ bytes) before) same

joined-append : (lines more : List (List ℕ)) → joined (lines ++ more) ≡ joined lines ++ joined more
joined-append lines more = flat_map-append (λ bytes. bytes) lines more

front_of_three : {A : Type 0} (x y z : List A) (n : ℕ) → x ++ take n y ≡ take (length x + min n (length y)) (x ++ (y ++ z))
front_of_three x y z n =
    ap (λ w. x ++ w) (sym (take_min n y)) ∙ (ap (λ w. x ++ w) (sym (take-append-le (min n (length y)) y z (omega arith)))
    ∙ sym (take-append-add x (y ++ z) (min n (length y))))

-- ---- lines that were written so far

pub Wrote-nothing : (taken : Option (List ℕ)) (all : List (List ℕ)) → Wrote taken taken all all
Wrote-nothing taken all = record { given = []; whole = refl; taken = took_nothing taken }

-- more lines were taken whole
pub Wrote-more : (before between now : Option (List ℕ)) (all lines rest : List (List ℕ)) → Wrote before between all (lines ++ rest) → Took between now (joined lines) → Wrote before now all rest
Wrote-more before between now all lines rest h more = record {
  given = h.given ++ lines;
  whole = h.whole ∙ sym (append_assoc h.given lines rest);
  taken = took_same before now (joined h.given ++ joined lines) _ (took_more before between now (joined h.given) (joined lines) h.taken more) (sym (joined-append h.given lines));
}

pub Wrote-all : (before now : Option (List ℕ)) (all : List (List ℕ)) → Wrote before now all [] → Took before now (joined all)
Wrote-all before now all h = took_same before now (joined h.given) _ h.taken (ap joined (sym (append-nil h.given) ∙ sym h.whole))

-- some of more lines were taken
some_lines : (before between now : Option (List ℕ)) (all lines rest : List (List ℕ)) → Wrote before between all (lines ++ rest) → TookLines between now lines [] → TookLines before now all []
some_lines before between now all lines rest h took =
    let n = took.0 in
    let count = length h.given + min n (length lines) in
    let so_far : h.given ++ take n lines ≡ take count all = front_of_three h.given lines rest n ∙ ap (take count) (sym h.whole) in
    let bytes : joined h.given ++ (joined (take n lines) ++ []) ≡ joined (take count all) ++ [] =
    sym (append_assoc (joined h.given) (joined (take n lines)) []) ∙ ap (λ front. front ++ []) (sym (joined-append h.given (take n lines)) ∙ ap joined so_far) in
    (count, took_same before now (joined h.given ++ (joined (take n lines) ++ [])) _ (took_more before between now (joined h.given) (joined (take n lines) ++ []) h.taken took.1) bytes)

-- a front of more lines was taken
some_bytes : (before between now : Option (List ℕ)) (all lines rest : List (List ℕ)) → Wrote before between all (lines ++ rest) → TookFront between now (joined lines) → TookFront before now (joined all)
some_bytes before between now all lines rest h took =
    let n = took.0 in
    let front = joined h.given in
    let whole : front ++ (joined lines ++ joined rest) ≡ joined all = ap (λ w. front ++ w) (sym (joined-append lines rest)) ∙ sym (joined-append h.given (lines ++ rest)) ∙ ap joined (sym h.whole) in
    let len = length front + min n (length (joined lines)) in
    (len, took_same before now (front ++ take n (joined lines)) _ (took_more before between now front (take n (joined lines)) h.taken took.1) (front_of_three front (joined lines) (joined rest) n ∙ ap (take len) whole))

-- a stop within more lines
pub Wrote-stopped : (T U : Type 0) (before between now : Option (List ℕ)) (all lines rest : List (List ℕ)) (stop : Stop)
    → Wrote before between all (lines ++ rest) → TookUpTo {T = T} between now lines (Err stop) → TookUpTo {T = U} before now all (Err stop)
Wrote-stopped T U before between now all lines rest Disk h took = some_lines before between now all lines rest h took
Wrote-stopped T U before between now all lines rest Sink h took = some_bytes before between now all lines rest h took
Wrote-stopped T U before between now all lines rest Memory h took = some_lines before between now all lines rest h took

-- a stop before more lines that isn't the output's
pub Wrote-lines : (before now : Option (List ℕ)) (all rest : List (List ℕ)) → Wrote before now all rest → TookLines before now all []
Wrote-lines before now all rest h = some_lines before now now all [] rest h (0, took_nothing now)

-- ---- one line

pub one_line : (T : Type 0) (before after : Option (List ℕ)) (line : List ℕ) (result : Result T Stop) → TookLine before after line result → TookUpTo before after (line ∷ []) result
one_line T before after line (Ok x) took = took_same before after line _ took (sym (append-nil line))
one_line T before after line (Err Disk) took = absurd took
one_line T before after line (Err Sink) took = (took.0, took_same before after (take took.0 line) _ took.1 (ap (take took.0) (sym (append-nil line))))
one_line T before after line (Err Memory) took = (0, took ∙ took_nothing before)

pub TookLine-stopped : (T : Type 0) (before after : Option (List ℕ)) (bytes line : List ℕ) (error : SinkErr)
    → (IsErrOf {T = Unit {0}} (Err error) sink.Failed → TookFront before after bytes) → (IsErrOf {T = Unit {0}} (Err error) sink.Memory → after ≡ before) → bytes ≡ line
    → TookLine {T = T} before after line (Err (sink_stop error))
TookLine-stopped T before after bytes line sink.Failed failed memory same = subst (TookFront before after) same (failed refl)
TookLine-stopped T before after bytes line sink.Memory failed memory same = memory refl

-- the stop of another call
pub TookUpTo-stop : (T U : Type 0) (before after : Option (List ℕ)) (lines : List (List ℕ)) (stop : Stop) → TookUpTo {T = T} before after lines (Err stop) → TookUpTo {T = U} before after lines (Err stop)
TookUpTo-stop T U before after lines Disk took = took
TookUpTo-stop T U before after lines Sink took = took
TookUpTo-stop T U before after lines Memory took = took

-- one line more, which was said in these bytes
pub Wrote-line : (before between now : Option (List ℕ)) (all rest : List (List ℕ)) (line said : List ℕ) → Wrote before between all (line ∷ rest) → said ≡ line → Took between now said → Wrote before now all rest
Wrote-line before between now all rest line said h same took =
    Wrote-more before between now all (line ∷ []) rest h (one_line (Unit {0}) between now line (Ok tt) (took_same between now said line took same))

pub Wrote-line-stopped : (T : Type 0) (before between now : Option (List ℕ)) (all rest : List (List ℕ)) (line said : List ℕ) (stop : Stop)
    → Wrote before between all (line ∷ rest) → said ≡ line → TookLine {T = Unit {0}} between now said (Err stop) → TookUpTo {T = T} before now all (Err stop)
Wrote-line-stopped T before between now all rest line said stop h same took =
    Wrote-stopped (Unit {0}) T before between now all (line ∷ []) rest stop h (one_line (Unit {0}) between now line (Err stop) (subst (λ line. TookLine {T = Unit {0}} between now line (Err stop)) same took))

-- a stop for want of memory before more lines
pub Wrote-no_memory : (T : Type 0) (before now : Option (List ℕ)) (all rest : List (List ℕ)) (stop : Stop) → stop ≡ Memory → Wrote before now all rest → TookUpTo {T = T} before now all (Err stop)
Wrote-no_memory T before now all rest stop is h = subst (λ s. TookUpTo {T = T} before now all (Err s)) (sym is) (Wrote-lines before now all rest h)

-- a line, and then others up to a stop or to the end
pub line_then : (T : Type 0) (before between now : Option (List ℕ)) (all lines : List (List ℕ)) (line said : List ℕ) (result : Result T Stop) → all ≡ line ∷ lines → said ≡ line → Took before between said
    → TookUpTo between now lines result → TookUpTo before now all result
line_then T before between now all lines line said result is same took more = by result more
  where
    h : Wrote before between all (lines ++ [])
    h = Wrote-line before before between all (lines ++ []) line said (subst (Wrote before before all) (is ∙ ap (λ lines. line ∷ lines) (sym (append-nil lines))) (Wrote-nothing before all)) same took

    by : (result : Result T Stop) → TookUpTo between now lines result → TookUpTo before now all result
    by (Ok x) more = Wrote-all before now all (Wrote-more before between now all lines [] h more)
    by (Err stop) more = Wrote-stopped T T before between now all lines [] stop h more

-- lines that are taken whole, and then others up to a stop or to the end
pub lines_then : (T : Type 0) (before between now : Option (List ℕ)) (lines more : List (List ℕ)) (result : Result T Stop) → Took before between (joined lines)
    → TookUpTo between now more result → TookUpTo before now (lines ++ more) result
lines_then T before between now lines more result took rest = by result rest
  where
    h : Wrote before between (lines ++ more) (more ++ [])
    h = record { given = lines; whole = ap (λ more. lines ++ more) (sym (append-nil more)); taken = took }

    by : (result : Result T Stop) → TookUpTo between now more result → TookUpTo before now (lines ++ more) result
    by (Ok x) rest = Wrote-all before now (lines ++ more) (Wrote-more before between now (lines ++ more) more [] h rest)
    by (Err stop) rest = Wrote-stopped T T before between now (lines ++ more) more [] stop h rest

-- a stop among lines after which others would have come
pub lines_stopped : (T U : Type 0) (before now : Option (List ℕ)) (lines more : List (List ℕ)) (stop : Stop) → TookUpTo {T = T} before now lines (Err stop) → TookUpTo {T = U} before now (lines ++ more) (Err stop)
lines_stopped T U before now lines more stop took = Wrote-stopped T U before before now (lines ++ more) lines more stop (Wrote-nothing before (lines ++ more)) took

-- the only line
pub only_line : (T : Type 0) (before now : Option (List ℕ)) (all : List (List ℕ)) (line said : List ℕ) (result : Result T Stop) → all ≡ line ∷ [] → said ≡ line → TookLine before now said result → TookUpTo before now all result
only_line T before now all line said result is same took =
    subst (λ lines. TookUpTo before now lines result) (sym is) (one_line T before now line result (subst (λ line. TookLine before now line result) same took))

-- a stop of the disk, or for want of memory, before more lines
pub Wrote-disk_stopped : (T U : Type 0) (before now : Option (List ℕ)) (all rest : List (List ℕ)) (stop : Stop) (faults_before faults_now : ℕ) → Wrote before now all rest → DiskStops {T = T} faults_before faults_now (Err stop)
    → TookUpTo {T = U} before now all (Err stop)
Wrote-disk_stopped T U before now all rest Disk n m h stops = Wrote-lines before now all rest h
Wrote-disk_stopped T U before now all rest Sink n m h stops = absurd stops
Wrote-disk_stopped T U before now all rest Memory n m h stops = Wrote-lines before now all rest h

-- the same, where a call of the disk gave nothing
pub Wrote-disk_failed : (T : Type 0) (before now : Option (List ℕ)) (all rest : List (List ℕ)) (error : DiskErr) → Wrote before now all rest → TookUpTo {T = T} before now all (Err (disk_stop error))
Wrote-disk_failed T before now all rest disk.Failed h = Wrote-lines before now all rest h
Wrote-disk_failed T before now all rest disk.Memory h = Wrote-lines before now all rest h
