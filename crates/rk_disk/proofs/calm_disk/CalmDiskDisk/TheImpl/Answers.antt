use Rattle.std.proofs.Common.{◌≡◌, ◌^◌, ◌<◌, ◌++◌, [], length, drop, Some, Ok, Err, IfOk, IfSome, unwrap_or, refl, sym, ap, subst}
use Rattle.std.specs.Option.{option_map}
use Rattle.std.specs.Result.{IsErrOf}
use Rattle.std.specs.FinMap as map
use Rattle.rk_bytes.specs.Model.DiskImages.{Directory, Counts, told_at_rest, part_of_file}
use Rattle.rk_bytes.proofs.Callers.DiskLemmas.{contents-resting}
use Rattle.rk_disk.specs.declared.disk.DiskErr.TheVariants.{Failed, Memory}
use Rattle.rk_disk.specs.Faults.{disk_failed}
use Rattle.rk_disk.proofs.calm_disk.CalmDiskDisk.TheImpl.Goals as goal

pub names-tells : goal.names-tells
names-tells c = record {
  names = subst (λ files. IfOk c.result (λ names. names ≡ map.keys files)) (sym (contents-resting c.args.self.now)) c.ensures.names;
  left = ap (λ disk. Some (told_at_rest disk)) c.ensures.same;
  faults = elim c.result as (λ r. ¬ IsErrOf r Failed → Counts (disk_failed r) 0 0) [
    | Ok names ↦ λ _. refl
    | Err Failed ↦ λ never. absurd (never refl)
    | Err Memory ↦ λ _. refl
  ] c.ensures.failed;
}

pub size-tells : goal.size-tells
size-tells c =
    let size = subst (λ r. IfOk r (λ size. size ≡ option_map length (map.get c.args.self.now c.args.name.now))) (sym c.ensures.size) refl in
    record {
      size = subst (λ (files : Directory). IfOk c.result (λ size. size ≡ option_map length (map.get files c.args.name.now))) (sym (contents-resting c.args.self.now)) size;
      short = subst (λ (files : Directory). IfOk c.result (λ _. IfSome (map.get files c.args.name.now) (λ bytes. length bytes < 2 ^ 64))) (sym (contents-resting c.args.self.now))
          (subst (λ r. IfOk r (λ _. IfSome (map.get c.args.self.now c.args.name.now) (λ bytes. length bytes < 2 ^ 64))) (sym c.ensures.size) c.ensures.short);
      left = ap (λ disk. Some (told_at_rest disk)) c.ensures.same;
      faults = subst (λ r. Counts (disk_failed r) 0 0) (sym c.ensures.size) refl;
    }

pub read-tells : goal.read-tells
read-tells c =
    let IsPart = λ (files : Directory). IfOk c.result (λ n.
    let part = part_of_file c.args.at (length c.args.buf.now) (unwrap_or (map.get files c.args.name.now) []) in
    (n ≡ length part) × (c.new.buf.now ≡ part ++ drop n c.args.buf.now)) in
    let part = part_of_file c.args.at (length c.args.buf.now) (unwrap_or (map.get c.args.self.now c.args.name.now) []) in
    let given = subst (λ r. IfOk r (λ n. (n ≡ length part) × (c.new.buf.now ≡ part ++ drop n c.args.buf.now))) (sym c.ensures.part.0) (refl, c.ensures.part.1) in
    record {
      within = c.ensures.within;
      part = subst IsPart (sym (contents-resting c.args.self.now)) given;
      short = subst (λ (files : Directory). IfOk c.result (λ _. IfSome (map.get files c.args.name.now) (λ bytes. length bytes < 2 ^ 64))) (sym (contents-resting c.args.self.now))
          (subst (λ r. IfOk r (λ _. IfSome (map.get c.args.self.now c.args.name.now) (λ bytes. length bytes < 2 ^ 64))) (sym c.ensures.part.0) c.ensures.short);
      memory = subst (λ r. IsErrOf r Memory → c.new.buf.now ≡ c.args.buf.now) (sym c.ensures.part.0) (λ never. cc);
      left = ap (λ disk. Some (told_at_rest disk)) c.ensures.same;
      faults = subst (λ r. Counts (disk_failed r) 0 0) (sym c.ensures.part.0) refl;
    }
