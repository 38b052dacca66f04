use Rattle.std.proofs.Common.{◌≡◌, true, Result, Ok, Err, is_ok, refl, sym, ◌∙◌}
use Rattle.words.specs.Refusals.{refusal_number}
use Rattle.words.specs.declared.refusals.Refusal.{Refusal}
use Rattle.book.proofs.FormBytes.{holds-form}
use Rattle.clinic.proofs.facts.in_form.Goals as goal

none-refused : (r : Result (Unit {0}) Refusal) → is_ok r ≡ true → refusal_number r ≡ 0
none-refused (Ok t) h = refl
none-refused (Err e) h = absurd (cc)

-- A book in form holds its book.
pub returns : goal.returns
returns c h = holds-form _ (λ i. (c.type_inv.book i).fits) (sym c.check.ensures ∙ none-refused _ (sym c.is_ok.ensures.value ∙ h))
