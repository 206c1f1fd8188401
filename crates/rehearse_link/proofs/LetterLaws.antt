-- Each letter of an accepted input is one event.
use Rattle.std.specs.Prelude.{ℕ, ◌≡◌, refl, true, false, List, [], ◌∷◌, length, eqb, ltb}
use Rattle.std.proofs.Common.{sym, ◌∙◌, arith, length-append, ne_eqb}
use Rattle.std.proofs.lemmas.Bool.{eqb-false}
use Rattle.text.specs.Find.{index_of}
use Rattle.octets.specs.TestLaws.{by_cases, both}
use Rattle.script.specs.Script.{only, events}
use Rattle.job.specs.declared.Setup.{Setup}
use Rattle.job.specs.Run.{Run}
use Rattle.rehearse.specs.Rehearse.{event}
use Rattle.link.specs.Link.{Event}
use Rattle.link_load.specs.Model.{Reset}
use Rattle.rehearse_link.specs.World.{event_at, events_of}

other : (letter k : ℕ) → eqb letter k ≡ false → eqb k letter ≡ false
other letter k e = ne_eqb k letter (λ z. eqb-false letter k e (sym z))

abbrev One : {X : Type 0} → List (Event X) → Type 0
One es = length es ≡ 1

pub one : (X : Type 0) (reply : List ℕ) (letter : ℕ) → ltb (index_of letter events) (length events) ≡ true → length (event_at {X = X} reply letter) ≡ 1
unfolding index_of
one X reply letter e =
    by_cases (One {X = X}) (eqb letter 104) (λ _. refl) (λ a.
    by_cases (One {X = X}) (eqb letter 107) (λ _. refl) (λ b.
    by_cases (One {X = X}) (eqb letter 120) (λ _. refl) (λ c.
    by_cases (One {X = X}) (eqb letter 116) (λ _. refl) (λ d.
    by_cases (One {X = X}) (eqb letter 117) (λ _. refl) (λ f.
    by_cases (One {X = X}) (eqb letter 121) (λ _. refl) (λ g.
    by_cases (One {X = X}) (eqb letter 109) (λ _. refl) (λ h.
    by_cases (One {X = X}) (eqb letter 110) (λ _. refl) (λ i.
    let none : false ≡ true =
    rw (other letter 104 a, other letter 107 b, other letter 120 c, other letter 116 d, other letter 117 f, other letter 121 g, other letter 109 h, other letter 110 i) at e in
    let z : ◌≡◌ {A = ℕ} 0 1 = cc in absurd (omega arith)))))))))

pub one_each : (s : Setup) (file : List ℕ) (r : Run) (letters : List ℕ) → only events letters ≡ true → length (events_of s file r letters) ≡ length letters
unfolding events_of only
one_each s file r [] e = refl
one_each s file r (letter ∷ rest) e =
    let x = both (ltb (index_of letter events) (length events)) (only events rest) e in
    length-append (event_at r.reply letter) (events_of s file (event s file r letter).run rest)
    ∙ (omega (arith, one (Reset s.host) r.reply letter x.0, one_each s file (event s file r letter).run rest x.1))
