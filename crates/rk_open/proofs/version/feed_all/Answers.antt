use Rattle.std.proofs.Common.{◌≡◌, ◌+◌, true, false, [], ◌++◌, length, take, rules, ap, ◌∙◌, subst, arith}
use Rattle.std.proofs.lemmas.List.{length-take}
use Rattle.rk_disk.specs.Parts.{IsPart, OfFile}
use Rattle.rk_disk.proofs.Callers.{OfFile-both, OfFile-all}
use Rattle.rk_manifest.specs.Folds.{HasFed}
use Rattle.rk_open.proofs.FoldLemmas.{part_fed, last_fed}
use Rattle.rk_open.proofs.version.feed_all.Goals as goal

pub loop-len-init : goal.loop-len-init
loop-len-init g c = record {
  within = search rules;
  room = c.requires.room;
  read = omega (arith, c.requires.begin);
  left = search rules;
  faults = search rules;
  fed = OfFile-all (g.D.Disk.told c.args.disk.now) c.args.name.now c.args.size (λ bytes. HasFed c.args.fold.now false (take 0 bytes)) (λ bytes. c.requires.unfed);
  bytes = ([], c.requires.unfed);
}

pub loop-len-preserved : goal.loop-len-preserved
loop-len-preserved g c =
    let inv = c.loop-len.invariant in
    let told = g.D.Disk.told c.args.disk.now in
    let name = c.args.name.now in
    let at = c.loop-len.at in
    let block = take c.in_ok-len.len c.read_part.new.buf in
    let is = subst (λ told. OfFile told name c.args.size (λ bytes. IsPart at bytes block c.in_ok-len.last)) inv.left c.in_ok-len.ensures.part in
    let full = c.in_ok-len.ensures.full c.if-last.false in
    let len : length block ≡ 32768 = length-take c.in_ok-len.len c.read_part.new.buf ∙ omega (arith, full.0, inv.room, c.in_ok-len.ensures.room) in record {
      within = omega (arith, full.1, inv.room);
      room = c.in_ok-len.ensures.room ∙ inv.room;
      read = omega (arith, c.in_ok-feed.ensures.read, inv.read, len);
      left = search rules;
      faults = search rules;
      fed = OfFile-both told name c.args.size (λ bytes. HasFed c.loop-len.fold false (take at bytes)) (λ bytes. IsPart at bytes block c.in_ok-len.last) (λ bytes. HasFed c.feed.new.self false (take (at + 32768) bytes))
          (λ bytes fed is. subst (HasFed c.feed.new.self false) (part_fed at bytes block c.in_ok-len.last is ∙ ap (λ n. take (at + n) bytes) len)
          (subst (λ last. HasFed c.feed.new.self last (take at bytes ++ block)) c.if-last.false (c.in_ok-feed.ensures.fed (take at bytes) fed)))
          inv.fed is;
      bytes = (inv.bytes.0 ++ block, subst (λ last. HasFed c.feed.new.self last (inv.bytes.0 ++ block)) c.if-last.false (c.in_ok-feed.ensures.fed inv.bytes.0 inv.bytes.1));
    }

pub returns-then-last-clause-fed : goal.returns-then-last-clause-fed
returns-then-last-clause-fed g c =
    let inv = c.loop-len.invariant in
    let told = g.D.Disk.told c.args.disk.now in
    let name = c.args.name.now in
    let at = c.loop-len.at in
    let block = take c.in_ok-len.len c.read_part.new.buf in
    let is = subst (λ told. OfFile told name c.args.size (λ bytes. IsPart at bytes block true)) inv.left (subst (λ last. OfFile (g.D.Disk.told c.loop-len.disk) name c.args.size (λ bytes. IsPart at bytes block last)) c.if-last.true c.in_ok-len.ensures.part) in
    OfFile-both told name c.args.size (λ bytes. HasFed c.loop-len.fold false (take at bytes)) (λ bytes. IsPart at bytes block true) (HasFed c.feed.new.self true)
    (λ bytes fed is. subst (HasFed c.feed.new.self true) (last_fed at bytes block is)
    (subst (λ last. HasFed c.feed.new.self last (take at bytes ++ block)) c.if-last.true (c.in_ok-feed.ensures.fed (take at bytes) fed)))
    inv.fed is

pub returns-then-last-clause-bytes : goal.returns-then-last-clause-bytes
returns-then-last-clause-bytes g c =
    let fed = c.loop-len.invariant.bytes in
    let block = take c.in_ok-len.len c.read_part.new.buf in
    (fed.0 ++ block, subst (λ last. HasFed c.feed.new.self last (fed.0 ++ block)) c.if-last.true (c.in_ok-feed.ensures.fed fed.0 fed.1))
