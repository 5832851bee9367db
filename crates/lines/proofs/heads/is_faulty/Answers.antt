-- `lines::heads::is_faulty` meets its contract, by the test that decides it. Assumes nothing.
use Rattle.std.proofs.Common.{◌≡◌, ℕ, not, sym, ap, ◌∙◌, refl, arith}
use Rattle.lines.proofs.Held.{faulty-few, faulty-many, faulty-name, faulty-terms}
use Rattle.lines.proofs.heads.is_faulty.Goals as goal
use Rattle.lines.proofs.heads.is_faulty.Goals.{then-count-lt2-via-then-count-lt2, then-count-lt2-via-else-count-lt2+then-count-gt6}
use Rattle.lines.proofs.heads.is_faulty.Goals.{then-count-lt2-via-else-count-lt2+else-count-gt6+then-keys-lt28}

pub returns-then-count-lt2 : goal.returns-then-count-lt2
returns-then-count-lt2 c = (
  λ fs h. elim c.then-count-lt2.branch [
    | then-count-lt2-via-then-count-lt2 w ↦ sym (faulty-few fs (omega (arith, h.counted)))
    | then-count-lt2-via-else-count-lt2+then-count-gt6 w ↦ sym (faulty-many fs (omega (arith, h.counted)))
    | then-count-lt2-via-else-count-lt2+else-count-gt6+then-keys-lt28 w ↦
        sym (faulty-name fs _ h.keyed (omega (arith, h.counted)) (omega (arith, h.counted)) w.if-keys-lt28.true)
  ],
  λ e. absurd (let z : ◌≡◌ {A = ℕ} 0 1 = cc in omega arith),
)

pub returns : goal.returns
returns c = (
  λ fs h.
      ap not (c.are_terms.ensures fs h)
      ∙ sym (faulty-terms fs _ h.keyed (omega (arith, h.counted)) (omega (arith, h.counted)) _ c.if-keys-lt28.false
      refl),
  λ e. (omega arith, omega arith),
)
