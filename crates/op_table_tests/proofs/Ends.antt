-- What a worker holds after a chunk and after a join.
use Rattle.std.proofs.Common.{◌≡◌, ◌≢◌, ℕ, ◌≤◌, true, false, List, [], length, drop, Some, sym, ap, ◌∙◌, subst, arith, ⊎_elim}
use Rattle.operations.specs.declared.op.Op.{Op}
use Rattle.op_table.specs.declared.view.View.{View}
use Rattle.op_table.specs.Rule.{lists, position_of, Work}
use Rattle.op_table.specs.Seats.{rewound}
use Rattle.op_table.specs.Plays.{join_of}
use Rattle.op_table.proofs.Alone.{same_lists, same_position, at_end}
use Rattle.op_table.proofs.Seats.{lists-append, position_first, position_second}
use Rattle.op_table.proofs.Claims.{or_either}
use Rattle.op_table_tests.specs.Team.{AtEnds}

pub same_lists_at : (k k' : ℕ) (xs ys : List (ℕ × ℕ)) → k' ≡ k → rewound k' xs ≡ rewound k ys → (j : ℕ) → lists j xs ≡ lists j ys
same_lists_at k k' xs ys e b = same_lists k xs ys (ap (λ m. rewound m xs) (sym e) ∙ b)

pub same_position_at : (k k' : ℕ) (xs ys : List (ℕ × ℕ)) → k' ≡ k → rewound k' xs ≡ rewound k ys → (j : ℕ) → j ≢ k → position_of j xs ≡ position_of j ys
same_position_at k k' xs ys e b = same_position k xs ys (ap (λ m. rewound m xs) (sym e) ∙ b)

pub end_of : (os os' : List Op) (i i' : ℕ) → os' ≡ os → i' ≡ i → Some (drop i' os') ≡ Some [] → length os ≤ i
end_of os os' i i' e q s = let h = at_end os' i' (some_list (drop i' os') [] s) in let l : length os' ≡ length os = ap length e in omega arith
  where
    some_list : (xs ys : List Op) → Some xs ≡ Some ys → xs ≡ ys
    some_list xs ys s = cc

pub ends_joined : (d : Work) (v w u : View) → u ≡ join_of v w → AtEnds d v → AtEnds d w → AtEnds d u
ends_joined d v w u e a b = subst (AtEnds d) (sym e) (λ k l. ⊎_elim
    (λ (x : lists k v.held ≡ true). let q = position_first k v.held w.held x in let h = a k x in omega arith)
    (λ (x : (lists k v.held ≡ false) × (lists k w.held ≡ true)). let q = position_second k v.held w.held x.0 in let h = b k x.1 in omega arith)
    (or_either (lists k v.held) (lists k w.held) (sym (lists-append k v.held w.held) ∙ l)))
