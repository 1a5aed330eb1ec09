use Rattle.std.proofs.Common.{◌≡◌, ◌^◌, ◌<◌, ◌++◌, [], length, drop, Some, Ok, Err, true, IfOk, OnErr, IfSome, unwrap_or, sym, ap, subst}
use Rattle.std.specs.Option.{option_map}
use Rattle.std.specs.FinMap as map
use Rattle.rk_bytes.specs.Model.DiskImages.{Directory, told_at_rest, part_of_file}
use Rattle.rk_disk.specs.InMemory.{after_read, after_reading}
use Rattle.rk_bytes.proofs.Callers.DiskLemmas.{contents-resting}
use Rattle.rk_disk.proofs.mem_disk.MemDiskDisk.TheImpl.Goals as goal

pub names-tells : goal.names-tells
names-tells c = record {
  names = subst (λ files. IfOk c.result (λ names. names ≡ map.keys files)) (sym (contents-resting c.args.self.now.files)) c.ensures.names;
  left = ap (λ disk. Some (told_at_rest disk.files)) c.ensures.counted;
  faults = c.ensures.faults;
}

pub size-tells : goal.size-tells
size-tells c = record {
  size = subst (λ files. IfOk c.result (λ size. size ≡ option_map length (map.get files c.args.name.now))) (sym (contents-resting c.args.self.now.files)) c.ensures.size;
  short = subst (λ files. IfOk c.result (λ _. IfSome (map.get files c.args.name.now) (λ bytes. length bytes < 2 ^ 64))) (sym (contents-resting c.args.self.now.files)) c.ensures.short;
  left = ap (λ disk. Some (told_at_rest disk.files)) c.ensures.counted;
  faults = c.ensures.faults;
}

pub read-tells : goal.read-tells
read-tells c =
    let IsPart = λ (files : Directory). IfOk c.result (λ n.
    let part = part_of_file c.args.at (length c.args.buf.now) (unwrap_or (map.get files c.args.name.now) []) in
    (n ≡ length part) × (c.new.buf.now ≡ part ++ drop n c.args.buf.now)) in
    record {
      within = c.ensures.within;
      part = subst IsPart (sym (contents-resting c.args.self.now.files)) c.ensures.part;
      short = subst (λ files. IfOk c.result (λ _. IfSome (map.get files c.args.name.now) (λ bytes. length bytes < 2 ^ 64))) (sym (contents-resting c.args.self.now.files)) c.ensures.short;
      memory = λ is. absurd (c.ensures.memory is);
      left = elim c.result as (λ r. IfOk r (λ n. c.new.self.now ≡ after_read c.args.name.now n c.args.self.now) → OnErr r (c.new.self.now ≡ after_reading true c.args.self.now) → Some (told_at_rest c.new.self.now.files) ≡ Some (told_at_rest c.args.self.now.files)) [
        | Ok n ↦ λ ok _. ap (λ disk. Some (told_at_rest disk.files)) ok
        | Err e ↦ λ _ err. ap (λ disk. Some (told_at_rest disk.files)) err
      ] c.ensures.counted c.ensures.refused;
      faults = c.ensures.faults;
    }
