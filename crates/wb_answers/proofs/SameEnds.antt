-- Two ends of runs are the same or differ.
use Rattle.std.proofs.Common.{◌≡◌, ◌≢◌, ◌⊎◌, inl, inr, Bool, true, false, refl, sym, ◌∙◌, ap, subst}
use Rattle.std.specs.Prelude.{nat_eq}
use Rattle.std.specs.Ordering.{int_eq}
use Rattle.std.proofs.lemmas.Bool.{eq-eqb, eqb-true, false≢true}
use Rattle.std.proofs.lemmas.Bool.Decides.{Decides-int_eq}
use Rattle.wb_heap_model.specs.declared.heap.Panic.{Panic}
use Rattle.wb_heap_model.specs.declared.heap.Panic.TheVariants.{User, Alloc, Workbench}
use Rattle.wb_meaning.specs.declared.run.Why.{Why}
use Rattle.wb_meaning.specs.declared.run.Why.TheVariants.{Budget, Ceiling}
use Rattle.wb_runs.specs.declared.run_end.RunEnd.{RunEnd}
use Rattle.wb_runs.specs.declared.run_end.RunEnd.TheVariants.{NoCleanup, Panicked, Leaked, Left, Plain, Cut}

abbrev why_eq : Why → Why → Bool
why_eq Budget Budget = true
why_eq Ceiling Ceiling = true
why_eq _ _ = false

abbrev panic_eq : Panic → Panic → Bool
panic_eq (User m) (User n) = nat_eq m n
panic_eq (Alloc m) (Alloc n) = nat_eq m n
panic_eq (Workbench m) (Workbench n) = nat_eq m n
panic_eq _ _ = false

abbrev end_eq : RunEnd → RunEnd → Bool
end_eq NoCleanup NoCleanup = true
end_eq (Panicked p) (Panicked q) = panic_eq p q
end_eq (Leaked m) (Leaked n) = nat_eq m n
end_eq (Left x) (Left y) = int_eq x y
end_eq Plain Plain = true
end_eq (Cut v) (Cut w) = why_eq v w
end_eq _ _ = false

why-same : (v w : Why) → why_eq v w ≡ true → v ≡ w
why-same Budget Budget e = refl
why-same Ceiling Ceiling e = refl
why-same v w e = absurd (false≢true e)

panic-same : (p q : Panic) → panic_eq p q ≡ true → p ≡ q
panic-same (User m) (User n) e = ap User (eqb-true m n e)
panic-same (Alloc m) (Alloc n) e = ap Alloc (eqb-true m n e)
panic-same (Workbench m) (Workbench n) e = ap Workbench (eqb-true m n e)
panic-same p q e = absurd (false≢true e)

end-same : (a b : RunEnd) → end_eq a b ≡ true → a ≡ b
end-same NoCleanup NoCleanup e = refl
end-same (Panicked p) (Panicked q) e = ap Panicked (panic-same p q e)
end-same (Leaked m) (Leaked n) e = ap Leaked (eqb-true m n e)
end-same (Left x) (Left y) e = ap Left ((Decides-int_eq x y).0 e)
end-same Plain Plain e = refl
end-same (Cut v) (Cut w) e = ap Cut (why-same v w e)
end-same a b e = absurd (false≢true e)

why-itself : (v : Why) → why_eq v v ≡ true
why-itself Budget = refl
why-itself Ceiling = refl

panic-itself : (p : Panic) → panic_eq p p ≡ true
panic-itself (User n) = eq-eqb n n refl
panic-itself (Alloc n) = eq-eqb n n refl
panic-itself (Workbench n) = eq-eqb n n refl

end-itself : (a : RunEnd) → end_eq a a ≡ true
end-itself NoCleanup = refl
end-itself (Panicked p) = panic-itself p
end-itself (Leaked n) = eq-eqb n n refl
end-itself (Left x) = (Decides-int_eq x x).1 refl
end-itself Plain = refl
end-itself (Cut v) = why-itself v

pub same-or-not : (a b : RunEnd) → (a ≡ b) ⊎ (a ≢ b)
same-or-not a b = by (end_eq a b) refl
  where
    by : (t : Bool) → end_eq a b ≡ t → (a ≡ b) ⊎ (a ≢ b)
    by true e = inl (end-same a b e)
    by false e = inr (λ same. false≢true (sym e ∙ subst (λ c. end_eq a c ≡ true) same (end-itself a)))
