use Rattle.std.proofs.Common.{◌≡◌, ℕ, List, ◌∷◌, ◌-◌, Some, IfSome, refl, sym, ap, ◌∙◌, subst, take}
use Rattle.std.specs.Prelude.{map}
use Rattle.lru.specs.LruCache.{LruCache, lru_cache, put_entries}
use Rattle.rk_bytes.specs.Model.DiskImages.{contents_told}
use Rattle.rk_cache.specs.declared.key.BlockKey.{BlockKey}
use Rattle.rk_cache.specs.Answers.{HoldsFor, IsGiven}
use Rattle.rk_cache.specs.Kept.{CacheSeen, kept_of, block_of, newest}
use Rattle.rk_cache.proofs.KeptLemmas.{seen, view, same, left, not_kept, given_kept, newest_kept, given_new, puts, on_err}
use Rattle.rk_cache.proofs.KeyLemmas.{equal_keys, is_test}
use Rattle.rk_cache.proofs.cache.BlockCache.keep_block.Goals as goal

pub returns-then-promote-clause-ok : goal.returns-then-promote-clause-ok
returns-then-promote-clause-ok g c =
    let key = c.args.key in
    let es = c.self.inside.by_key.entries in
    let cap = c.self.inside.by_key.cap in
    let told = contents_told (g.D.Disk.told c.args.disk.now) in
    let some = sym c.promote.ensures.value ∙ c.if-promote.true in
    let holds = subst (λ (s : CacheSeen). IfSome told (HoldsFor s.kept)) (sym c.self.view_is) c.requires in
    subst (λ (old : CacheSeen). IsGiven old key told (view c.promote.new.self)) c.self.view_is
    (subst (λ (blocks : LruCache BlockKey (List ℕ)). IsGiven (seen es cap) key told (view blocks)) (sym c.promote.ensures.entries) (given_kept key (equal_keys key) (is_test key) es cap told some holds))

pub returns-then-promote-clause-kept : goal.returns-then-promote-clause-kept
returns-then-promote-clause-kept g c = λ block told.
    let key = c.args.key in
    let es = c.self.inside.by_key.entries in
    let some = sym c.promote.ensures.value ∙ c.if-promote.true in
    let told' = subst (λ (s : CacheSeen). block_of key.number key.size key.handle key.sum s.kept ≡ Some block) (sym c.self.view_is) told in
    (refl, refl, ap (λ (blocks : LruCache BlockKey (List ℕ)). newest (map kept_of blocks.entries)) c.promote.ensures.entries ∙ newest_kept key (equal_keys key) (is_test key) es c.self.inside.by_key.cap some block told')

pub returns-in_err-block-clause-err : goal.returns-in_err-block-clause-err
returns-in_err-block-clause-err g c =
    let key = c.args.key in
    let none = sym c.promote.ensures.value ∙ c.if-promote.false in
    on_err c.from_residual.result (left key (equal_keys key) (is_test key) c.self.inside.by_key c.args.self.now c.self.view_is none c.promote.new.self c.promote.ensures.entries)

pub returns-in_err-block-clause-kept : goal.returns-in_err-block-clause-kept
returns-in_err-block-clause-kept g c = λ block told.
    let key = c.args.key in
    let none = sym c.promote.ensures.value ∙ c.if-promote.false in
    absurd (not_kept key (equal_keys key) (is_test key) c.self.inside.by_key c.args.self.now c.self.view_is none block told)

pub returns-in-Ok-clause-ok : goal.returns-in-Ok-clause-ok
returns-in-Ok-clause-ok g c =
    let key = c.args.key in
    let es = c.self.inside.by_key.entries in
    let cap = c.self.inside.by_key.cap in
    let block = c.in_ok-block.block in
    let told = contents_told (g.D.Disk.told c.args.disk.now) in
    let none = sym c.promote.ensures.value ∙ c.if-promote.false in
    let holds = subst (λ (s : CacheSeen). IfSome told (HoldsFor s.kept)) (sym c.self.view_is) c.requires in
    let new : c.put.new.self ≡ lru_cache ((key, block) ∷ take (cap - 1) es) cap =
    c.in-Ok.ensures.entries
    ∙ ap (λ (blocks : LruCache BlockKey (List ℕ)). lru_cache (put_entries equal_keys blocks key block) blocks.cap)
    (same key (equal_keys key) (is_test key) c.self.inside.by_key c.args.self.now c.self.view_is none c.promote.new.self c.promote.ensures.entries)
    ∙ ap (λ es. lru_cache es cap) (puts equal_keys es cap key block none) in
    subst (λ (old : CacheSeen). IsGiven old key told (view c.put.new.self)) c.self.view_is
    (subst (λ (blocks : LruCache BlockKey (List ℕ)). IsGiven (seen es cap) key told (view blocks)) (sym new) (given_new key (equal_keys key) (is_test key) es cap told block none holds c.in_ok-block.ensures.answer))

pub returns-in-Ok-clause-kept : goal.returns-in-Ok-clause-kept
returns-in-Ok-clause-kept g c = λ block told.
    let key = c.args.key in
    let none = sym c.promote.ensures.value ∙ c.if-promote.false in
    absurd (not_kept key (equal_keys key) (is_test key) c.self.inside.by_key c.args.self.now c.self.view_is none block told)

pub returns-clause-err : goal.returns-clause-err
returns-clause-err g c =
    let key = c.args.key in
    let none = sym c.promote.ensures.value ∙ c.if-promote.false in
    ap view c.in-Err.ensures.err ∙ left key (equal_keys key) (is_test key) c.self.inside.by_key c.args.self.now c.self.view_is none c.promote.new.self c.promote.ensures.entries

pub returns-clause-kept : goal.returns-clause-kept
returns-clause-kept g c = λ block told.
    let key = c.args.key in
    let none = sym c.promote.ensures.value ∙ c.if-promote.false in
    absurd (not_kept key (equal_keys key) (is_test key) c.self.inside.by_key c.args.self.now c.self.view_is none block told)
