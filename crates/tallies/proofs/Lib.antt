-- Laws of the tables by symbol. Assumes nothing.
pub mod Opened
pub mod CountLaws
pub mod ComeLaws
pub mod ExchangeLaws
pub mod FreshLaws
