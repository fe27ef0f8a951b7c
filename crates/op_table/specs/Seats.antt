-- What the operations of one chunk leave as it was.
use Rattle.std.specs.Prelude.{ℕ, List, [], ◌∷◌, if◌then◌else◌, ◌==◌}

-- the chunks of a seat, with chunk k at its start
abbrev pub rewound : ℕ → List (ℕ × ℕ) → List (ℕ × ℕ)
rewound k [] = []
rewound k (e ∷ es) = (e.0, if k == e.0 then 0 else e.1) ∷ rewound k es
