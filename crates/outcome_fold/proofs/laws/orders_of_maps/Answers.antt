use Rattle.outcome_fold.proofs.OrderLemmas.{texts_total, exact_texts, routes_total, exact_routes, tests_total, exact_tests}
use Rattle.outcome_fold.proofs.laws.orders_of_maps.Goals as goal

pub returns-clause-texts : goal.returns-clause-texts
returns-clause-texts c = texts_total

pub returns-clause-exact_texts : goal.returns-clause-exact_texts
returns-clause-exact_texts c = exact_texts

pub returns-clause-routes : goal.returns-clause-routes
returns-clause-routes c = routes_total

pub returns-clause-exact_routes : goal.returns-clause-exact_routes
returns-clause-exact_routes c = exact_routes

pub returns-clause-tests : goal.returns-clause-tests
returns-clause-tests c = tests_total

pub returns-clause-exact_tests : goal.returns-clause-exact_tests
returns-clause-exact_tests c = exact_tests
